mod Rows
mod Sharing
mod Stored
mod KeyWalks
mod Words
