-- A symbol is known by its pair.
use Rattle.std.proofs.Common.{◌≡◌, ℕ, Bool, true, false, refl, sym, ap, ◌∙◌, arith}
use Rattle.std.specs.Prelude.{nat_eq, ◌&&◌}
use Rattle.std.proofs.lemmas.Bool.{eq-eqb, and_parts}
use Rattle.std.proofs.lemmas.Bool.Decides.{nat_tests}
use Rattle.word_base.specs.declared.event.Room.TheVariants.{Resource, Uav, Counter, Shared}
use Rattle.node_pool.specs.declared.key.Key.{Key}
use Rattle.spirv_symbols.specs.declared.symbol.Access.TheVariants.{Plain, ReadOnly, Coherent}
use Rattle.spirv_symbols.specs.declared.symbol.Symbol.{Symbol}
use Rattle.spirv_symbols.specs.declared.symbol.Symbol.TheVariants.{AType, Constant, True, Null, Immediates, Import, Main, FirstLabel, Input, Memory, Uniform, Push, Scratch, Register, Registers, Elements, ImmediateArray}
use Rattle.spirv_symbols.specs.declared.symbol.TypeSymbol.TheVariants.{Void, Procedure, Word, Truth, Triple, Quad, Pair, Words, PushWords, Vectors, RuntimeWords, View, VectorsBlock, PushBlock, WordPointer, TriplePointer, LocalPointer, SharedPointer, ViewPointer, VectorsPointer, PushPointer}
use Rattle.spirv_symbols.specs.Names.{key, key_of, symbol_at, is_symbol}

pub back : (s : Symbol) → symbol_at (key_of s) ≡ s
back (AType Void) = refl
back (AType Procedure) = refl
back (AType Word) = refl
back (AType Truth) = refl
back (AType Triple) = refl
back (AType Quad) = refl
back (AType Pair) = refl
back (AType (Words n)) = refl
back (AType (PushWords n)) = refl
back (AType (Vectors n)) = refl
back (AType RuntimeWords) = refl
back (AType (View Plain)) = refl
back (AType (View ReadOnly)) = refl
back (AType (View Coherent)) = refl
back (AType (VectorsBlock n)) = refl
back (AType (PushBlock n)) = refl
back (AType (WordPointer class)) = refl
back (AType TriplePointer) = refl
back (AType (LocalPointer n)) = refl
back (AType (SharedPointer n)) = refl
back (AType (ViewPointer Plain)) = refl
back (AType (ViewPointer ReadOnly)) = refl
back (AType (ViewPointer Coherent)) = refl
back (AType (VectorsPointer n)) = refl
back (AType (PushPointer n)) = refl
back (Constant w) = refl
back True = refl
back (Null n) = refl
back Immediates = refl
back Import = refl
back Main = refl
back FirstLabel = refl
back (Input built_in) = refl
back (Memory (Resource slot)) = refl
back (Memory (Uav slot)) = refl
back (Memory (Counter slot)) = refl
back (Memory (Shared slot)) = refl
back (Uniform slot) = refl
back Push = refl
back (Scratch n) = refl
back (Register k) = refl
back Registers = refl
back (Elements slot) = refl
back ImmediateArray = refl

-- no two symbols have one pair
pub single : (s u : Symbol) → key_of s ≡ key_of u → s ≡ u
single s u e = sym (back s) ∙ ap symbol_at e ∙ back u

equal : (m n : ℕ) → nat_eq m n ≡ true → m ≡ n
equal m n e = grind (arith, nat_tests)

same_key : (a b : Key) → a.kind ≡ b.kind → a.number ≡ b.number → a ≡ b
same_key a b e f = ap (λ k. key k a.number) e ∙ ap (λ n. key b.kind n) f

pub is_same : (s u : Symbol) → is_symbol s u ≡ true → s ≡ u
is_same s u e =
    let p = and_parts (nat_eq (key_of s).kind (key_of u).kind) (nat_eq (key_of s).number (key_of u).number) e in
    single s u (same_key (key_of s) (key_of u) (equal (key_of s).kind (key_of u).kind p.0) (equal (key_of s).number (key_of u).number p.1))

equals : (n : ℕ) → nat_eq n n ≡ true
equals n = eq-eqb n n refl

pub is_itself : (s : Symbol) → is_symbol s s ≡ true
is_itself s = ap (λ b. b && nat_eq (key_of s).number (key_of s).number) (equals (key_of s).kind) ∙ equals (key_of s).number

pub differs : (s u : Symbol) → (s ≡ u → ⊥) → is_symbol s u ≡ false
differs s u d = by (is_symbol s u) refl where
  by : (b : Bool) → is_symbol s u ≡ b → is_symbol s u ≡ false
  by true e = absurd (d (is_same s u e))
  by false e = e
