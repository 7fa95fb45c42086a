-- A function whose blocks are a layout's meets the conditions on blocks.
use Rattle.std.proofs.Common.{◌≡◌, ℕ, ◌+◌, inl, List, [], ◌∷◌, ◌++◌, Bool, true, false, refl, sym, ap, ◌∙◌, subst, arith, append_assoc, append-nil}
use Rattle.std.specs.Prelude.{◌&&◌, IsTrue}
use Rattle.std.specs.List.{list_all}
use Rattle.spirv_words.specs.Blocks.{flow_of, block_of, edges, spans}
use Rattle.spirv_words.specs.Definitions.{results, are_distinct}
use Rattle.spirv_words.specs.Structure.{walk, walk_on, AtVariables, InBlock, follow, NoMerge, is_at_end, is_ordered, all_agree, leads_well}
use Rattle.spirv_words.specs.Text.{Instr}
use Rattle.spirv_flow.specs.Layout.{Layout, Straight, Both, Guarded, Chosen, Looped, Switched, CaseAt, DefaultAt, Breaks, Continues, Returns, code_of, Placed}
use Rattle.spirv_flow.specs.Fronts.{IsFront, IsStructured, tail, whole}
use Rattle.spirv_flow.proofs.Members.{both, each_passes}
use Rattle.spirv_flow.proofs.Shape.{blocks, constructs, branches}
use Rattle.spirv_flow.proofs.Derived.{Read, read}
use Rattle.spirv_flow.proofs.Nesting.{all_ordered, agreeing}
use Rattle.spirv_flow.proofs.Branches.{Stands, Ways, good}
use Rattle.spirv_flow.proofs.Parts.{Ahead, parted}
use Rattle.spirv_flow.proofs.Numbers.{numbered}

-- the first instruction is no variable
abbrev Starts : List Instr → Type 0
Starts [] = ⊥
Starts (i ∷ is) = walk_on AtVariables (flow_of i) ≡ walk_on InBlock (flow_of i)

starts : (x : Layout) (brk cont : ℕ) (l a : Bool) → Placed x l a → (rest : List Instr) → Starts rest → Starts (code_of x brk cont ++ rest)
starts (Both x y) brk cont l a p rest h =
    let c = code_of x brk cont in
    let d = code_of y brk cont in
    subst Starts (sym (append_assoc c d rest)) (starts x brk cont l a p.0 (d ++ rest) (starts y brk cont l a p.1 rest h))
starts (Straight []) brk cont l a p rest h = h
starts (Straight (i ∷ is)) brk cont l a p rest h = rw p.0.0 refl
starts (Guarded t i m x) brk cont l a p rest h = refl
starts (Chosen t y n m x z) brk cont l a p rest h = refl
starts (Looped h i c m x) brk cont l a p rest g = refl
starts (Switched on i m x) brk cont l a p rest h = refl
starts (CaseAt v k) brk cont l a p rest h = refl
starts (DefaultAt k) brk cont l a p rest h = refl
starts (Breaks n) brk cont l a p rest h = refl
starts (Continues n) brk cont l a p rest h = refl
starts (Returns n) brk cont l a p rest h = refl

in_block_then : (is : List Instr) → Starts is → walk AtVariables is ≡ walk InBlock is
in_block_then [] h = absurd h
in_block_then (i ∷ is) h = ap (λ w. walk w is) h

nowhere : {P : Type 0} → false ≡ true → P
nowhere e = absurd (grind arith)

module _ (front : List Instr) (x : Layout) (is_front : IsFront front) (placed : Placed x false false)
    (distinct : IsTrue (are_distinct (results (whole front x)))) where
  was_read : Read (block_of (whole front x)) x 0 0 1 tail
  was_read = read (block_of (whole front x)) x 0 0 1 false false placed tail
      (is_front.numbered (block_of (whole front x)) (code_of x 0 0 ++ tail) (numbered (whole front x) distinct))

  edges_are : edges (whole front x) ≡ branches x 1 (block_of (whole front x) 0) (block_of (whole front x) 0)
  edges_are =
      let number = block_of (whole front x) in
      is_front.edges number (code_of x 0 0 ++ tail) ∙ (was_read.edges ∙ append-nil (branches x 1 (number 0) (number 0)))

  spans_are : spans (whole front x) ≡ constructs x 1
  spans_are = is_front.spans (block_of (whole front x)) (code_of x 0 0 ++ tail) ∙ (was_read.spans ∙ append-nil (constructs x 1))

  pub structured : IsStructured (whole front x)
  structured =
      let to = block_of (whole front x) 0 in
      let cs = constructs x 1 in
      let es = branches x 1 to to in
      let stands : Stands cs x 1 = record { knows = λ s i. inl i; contains = λ s i. i } in
      let ways : Ways cs false false 1 (1 + blocks x) to to = record { leave = λ t. nowhere t; renew = λ t. nowhere t } in
      let ahead : Ahead false false (1 + blocks x) to to = record { leave = λ t. nowhere t; renew = λ t. nowhere t } in
      let sp = spans_are in
      let ed = edges_are in
      record {
        blocks = ap is_at_end
            (is_front.walks (code_of x 0 0 ++ tail) ∙ (in_block_then (code_of x 0 0 ++ tail) (starts x 0 0 false false placed tail refl) ∙
            was_read.walks));
        merges = both (follow NoMerge (whole front x)) (list_all is_ordered (spans (whole front x)) && all_agree (spans (whole front x)))
            (is_front.follows (code_of x 0 0 ++ tail) ∙ was_read.follows)
            (subst (λ l. IsTrue (list_all is_ordered l && all_agree l)) (sym sp) (both (list_all is_ordered cs) (all_agree cs) (all_ordered x 1)
            (agreeing x 1)));
        branches = rw (sp, ed) (each_passes (leads_well cs) es (good cs x 1 to to false false placed stands ways));
        switch_order = rw (sp, ed) (parted x 1 to to false false placed ahead);
      }
