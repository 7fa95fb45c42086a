-- What the variables of thread ids and of the immediate constant buffer stand on, in order.
use Rattle.std.proofs.Common.{◌≡◌, ℕ, suc, ◌+◌, ◌*◌, ◌≤◌, inl, inr, List, [], ◌∷◌, length, refl, sym, ap, subst, arith}
use Rattle.std.specs.Prelude.{map}
use Rattle.shader_tree.specs.Walks.{Each}
use Rattle.spirv_words.specs.StorageClass as storage
use Rattle.spirv_symbols.specs.declared.row.Part.TheVariants.{Of}
use Rattle.spirv_symbols.specs.declared.symbol.Symbol.{Symbol}
use Rattle.spirv_symbols.specs.declared.symbol.Symbol.TheVariants.{AType, Constant, Immediates, Input, ImmediateArray}
use Rattle.spirv_symbols.specs.declared.symbol.TypeSymbol.TheVariants.{Word, Words, WordPointer, LocalPointer}
use Rattle.spirv_symbols.specs.declared.entry.Entry.{Entry}
use Rattle.spirv_symbols.specs.Contexts.{Context}
use Rattle.spirv_symbols.specs.Rows.{needs_in, words_of, total}
use Rattle.spirv_symbols.specs.Tables.{weight}
use Rattle.spirv_emit.specs.Begun.{IsBegun, IsThere}
use Rattle.spirv_emit.specs.Emission.{Emission, next_of, words_left, ids_left}
use Rattle.spirv_emit.specs.Naming.{AreReady, StandInOrder, PutsAll}
use Rattle.spirv_emit.proofs.Room.{table_words, table_ids, table_begun}

module _ (entries : List Entry) (c : Context) (word : IsThere entries (AType Word)) where
  pub flat_order : (kind : ℕ) → kind ≡ 29 → IsThere entries (AType (WordPointer storage.Input)) → StandInOrder entries c [] (Input kind ∷ [])
  flat_order kind e input = subst (λ k. StandInOrder entries c [] (Input k ∷ [])) (sym e) ((inl input, tt), tt)

  -- the words of the immediate constant buffer
  constants_ready : (front : List Symbol) (ws : List ℕ) → Each (IsThere entries) (map (λ w. Constant w) ws)
      → AreReady entries front (needs_in (map (λ w. Of (Constant w)) ws))
  constants_ready front [] h = tt
  constants_ready front (w ∷ ws) h = (inl h.0, constants_ready front ws h.1)

  pub composite_order : (n : ℕ) → n ≡ length c.immediates → Each (IsThere entries) (map (λ w. Constant w) c.immediates)
      → StandInOrder entries c [] (Constant n ∷ AType (Words n) ∷ AType (LocalPointer n) ∷ Immediates ∷ ImmediateArray ∷ [])
  composite_order n e h = subst
      (λ n. StandInOrder entries c [] (Constant n ∷ AType (Words n) ∷ AType (LocalPointer n) ∷ Immediates ∷ ImmediateArray ∷ [])) (sym e)
      (let m = length c.immediates in (
        (inl word, tt),
        (
          (inl word, (inr (inl refl), tt)),
          (
            (inr (inl refl), tt),
            (
              (inr (inr (inl refl)), constants_ready (AType (LocalPointer m) ∷ AType (Words m) ∷ Constant m ∷ []) c.immediates h),
              ((inr (inr (inl refl)), (inr (inl refl), tt)), tt),
            ),
          ),
        ),
      ))

counted : (ws : List ℕ) → length (map (λ w. Constant w) ws) ≡ length ws
counted [] = refl
counted (w ∷ ws) = ap suc (counted ws)

pub constants_total : (c : Context) (ws : List ℕ) → total (words_of c) (map (λ w. Constant w) ws) ≡ 4 * length ws
constants_total c [] = refl
constants_total c (w ∷ ws) = omega (arith, constants_total c ws)

-- the room behind the words of the immediate constant buffer
module _ (a b : Emission) (frame : b.frame ≡ a.frame) (code : b.code ≡ a.code) (kept : b.kept ≡ a.kept)
    (n : PutsAll a.frame.context a.symbols b.symbols (map (λ w. Constant w) a.frame.context.immediates)) where
  abbrev count : ℕ
  count = length a.frame.context.immediates

  next : next_of b ≤ next_of a + count
  next = omega (arith, n.ids, counted a.frame.context.immediates)

  weights : weight a.frame.context b.symbols.entries ≤ weight a.frame.context a.symbols.entries + 4 * count
  weights = omega (arith, n.words, constants_total a.frame.context a.frame.context.immediates)

  pub constants_words : words_left a ≤ words_left b + 4 * count
  constants_words = table_words a b frame code kept (4 * count) count n.stands n.extends next weights

  pub constants_ids : ids_left a ≤ ids_left b + count
  constants_ids = table_ids a b frame code kept (4 * count) count n.stands n.extends next weights

  pub constants_begun : 4 * count ≤ words_left a → count ≤ ids_left a → IsBegun a → IsBegun b
  constants_begun = table_begun a b frame code kept (4 * count) count n.stands n.extends next weights
