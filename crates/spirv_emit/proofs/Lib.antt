mod Changing
mod Arms
mod Assigning
mod Below
mod RoomChains
mod Declared
mod Fences
mod Finishing
mod Buffers
mod Chains
mod Fields
mod Forms
mod Giving
mod Groups
mod Growth
mod Ordered
mod Kept
pub mod Links
pub mod Lists
mod Memory
mod Opening
mod Operators
mod Operands
pub mod Staying
mod Parts
mod Room
mod Saves
mod Searching
mod StatementParts
mod Effects
mod Stores
mod Locals
mod RoomWaiting
mod Loads
mod Sources
mod LaneWrites
mod Values
mod TextWords
