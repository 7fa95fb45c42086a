-- The one chunk of a tag.
use Rattle.std.proofs.Common.{◌≡◌, ℕ, List, [], ◌∷◌, length, refl, sym, ap, ◌∙◌, arith, Some}
use Rattle.word_base.specs.declared.rule.Refusal.{Refusal}
use Rattle.word_base.specs.Rules.{first}
use Rattle.dxbc_container.specs.declared.part.Tagged.{Tagged}
use Rattle.dxbc_container.specs.Layout.{shex_tag, count_of, offset_of, size_of}
use Rattle.dxbc_container.specs.Refusals.{IsContainer, tagged, size_refusals, sole_refusals, shex_refusals}
use Rattle.dxbc_container.specs.Chunks.{IsChunk, IsShex, IsTagged, IsSolePart}
use Rattle.dxbc_container.proofs.Firsts.{after_some}
use Rattle.dxbc_container.proofs.Tags.{listed, only_one, sole_named}

-- no other chunk has the tag
pub only : (bytes : List ℕ) (tag i : ℕ) → tagged bytes tag ≡ i ∷ [] → (j at : ℕ) (other : List ℕ) → IsChunk bytes j at tag other → j ≡ i
only bytes tag i e j at other h =
    only_one (tagged bytes tag) i j e (listed bytes tag j 0 (count_of bytes) (omega arith) (omega (arith, h.listed)) (sym h.named))

pub sole_part : (bytes : List ℕ) (tag i : ℕ) (t : Tagged) → IsContainer bytes → tagged bytes tag ≡ i ∷ [] → IsTagged bytes i t → IsSolePart bytes tag t.part
sole_part bytes tag i t s e h =
    let k = h.chunk in record {
      lies = h.lies;
      sole = record {
        container = s;
        number = i;
        offset = offset_of bytes i;
        behind = h.behind;
        chunk = record {
          listed = k.listed;
          begins = k.begins;
          named = sym (sole_named bytes tag i e);
          sized = k.sized;
          inside = k.inside;
          holds = k.holds;
        };
        only = only bytes tag i e;
      };
    }

-- one chunk has one content
same_chunk : (bytes : List ℕ) (tag i j p q : ℕ) (a b : List ℕ) → IsChunk bytes i p tag a → IsChunk bytes j q tag b → j ≡ i → a ≡ b
same_chunk bytes tag i j p q a b g h e =
    let o : q ≡ p = h.begins ∙ (ap (offset_of bytes) e ∙ sym g.begins) in
    let l : length b ≡ length a = h.sized ∙ (ap (size_of bytes) e ∙ sym g.sized) in
    g.holds ∙ sym (h.holds ∙ rw (o, l) refl)

pub single : (bytes a b : List ℕ) → IsShex bytes a → IsShex bytes b → a ≡ b
single bytes a b g h =
    let s = g.sole in
    let t = h.sole in
    same_chunk bytes shex_tag s.number t.number s.offset t.offset a b s.chunk t.chunk (s.only t.number t.offset b t.chunk)

-- what the search for the chunk refuses with is refused
pub still_refused : (bytes : List ℕ) (r : Refusal) → Some r ≡ first (sole_refusals bytes shex_tag) → Some r ≡ first (shex_refusals bytes)
still_refused bytes r h = after_some (sole_refusals bytes shex_tag) (size_refusals bytes (tagged bytes shex_tag)) r h
