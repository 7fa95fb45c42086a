-- Components that are written, some now and some behind all: the registers are as if each were written in its turn.
use Rattle.std.proofs.Common.{◌≡◌, ℕ, ◌<◌, ◌≤◌, Bool, true, false, List, [], ◌∷◌, ◌++◌, map, refl, ap, ◌∙◌, arith}
use Rattle.std.specs.Prelude.{if◌then◌else◌}
use Rattle.std.proofs.lemmas.Bool.{false≢true}
use Rattle.word_base.specs.Registers.{Registers}
use Rattle.word_base.specs.Settings.{Setting}
use Rattle.tpf_program.specs.Writes.{Target, with_word}
use Rattle.shader_tree.specs.Lane.{with_scratch}
use Rattle.shader_tree.specs.Walks.{Each}
use Rattle.shader_tree.specs.Terms.{Term, Scratch, Set, Nothing}
use Rattle.shader_tree.specs.Values.{Spaces, Words, words, value, word}
use Rattle.raise_operands.specs.Raising.{Part, write, now, behind}
use Rattle.raise_operands.proofs.Basics.{Pairs}
use Rattle.raise_operands.proofs.Cells.{same_cell, commute}
use Rattle.raise_operands.proofs.Indices.{set_elsewhere, set_there}
use Rattle.raise_operands.specs.Runs.{Leads, LeadsAll}
use Rattle.raise_operands.proofs.Leading.{leads_all, leads_nothing, leads_set}

-- A component, with the word of a register where it goes, and its word.
pub record Move : Type 0 where
  pub part : Part
  pub to : Target
  pub word' : ℕ

abbrev pub put : Move → Registers → Registers
put m r = with_word m.to m.part.component m.word' r

-- THE REGISTERS: all written in their order; those that are written now; those that waited
abbrev pub all : List Move → Registers → Registers
all [] r = r
all (m ∷ ms) r = all ms (put m r)

abbrev pub now_one : Bool → Move → Registers → Registers
now_one waits m r = if waits then r else put m r

abbrev pub behind_one : Bool → Move → Registers → Registers
behind_one waits m r = if waits then put m r else r

abbrev pub first_all : List Move → Registers → Registers
first_all [] r = r
first_all (m ∷ ms) r = first_all ms (now_one m.part.waits m r)

abbrev pub last_all : List Move → Registers → Registers
last_all [] r = r
last_all (m ∷ ms) r = last_all ms (behind_one m.part.waits m r)

-- of one that waits, and one behind it that does not, the words are different
abbrev pub Commutes : Move → Move → Type 0
Commutes m n = m.part.waits ≡ true → n.part.waits ≡ false → same_cell m.to m.part.component n.to n.part.component ≡ false

passed : (m n : Move) (b : Bool) → n.part.waits ≡ b → (b ≡ false → same_cell m.to m.part.component n.to n.part.component ≡ false) → (r : Registers)
    → put m (now_one b n r) ≡ now_one b n (put m r)
passed m n true e h r = refl
passed m n false e h r = commute m.to n.to m.part.component n.part.component m.word' n.word' r (h refl)

past_all : (m : Move) → m.part.waits ≡ true → (ms : List Move) → Each (Commutes m) ms → (r : Registers) → put m (first_all ms r) ≡ first_all ms
    (put m r)
past_all m w [] h r = refl
past_all m w (n ∷ ms) h r =
    past_all m w ms h.1 (now_one n.part.waits n r)
    ∙ ap (first_all ms) (passed m n n.part.waits refl (h.0 w) r)

one_first : (m : Move) (ms : List Move) (b : Bool) → m.part.waits ≡ b → Each (Commutes m) ms → (r : Registers)
    → last_all ms (behind_one b m (first_all ms (now_one b m r))) ≡ last_all ms (first_all ms (put m r))
one_first m ms true e h r = ap (last_all ms) (past_all m e ms h r)
one_first m ms false e h r = refl

pub reordered : (ms : List Move) → Pairs Commutes ms → (r : Registers) → last_all ms (first_all ms r) ≡ all ms r
reordered [] h r = refl
reordered (m ∷ ms) h r = one_first m ms m.part.waits refl h.0 r ∙ reordered ms h.1 (put m r)

-- THE WORDS of the tree's lane
abbrev pub now_by : Bool → Move → Words → Words
now_by waits m t = if waits then with_scratch t m.part.scratch m.word' else words t.scratch (put m t.registers)

abbrev pub behind_by : Bool → Move → Words → Words
behind_by waits m t = if waits then words t.scratch (put m t.registers) else t

abbrev pub now_all : List Move → Words → Words
now_all [] t = t
now_all (m ∷ ms) t = now_all ms (now_by m.part.waits m t)

abbrev pub behind_all : List Move → Words → Words
behind_all [] t = t
behind_all (m ∷ ms) t = behind_all ms (behind_by m.part.waits m t)

now_registers_by : (b : Bool) (m : Move) (t : Words) → (now_by b m t).registers ≡ now_one b m t.registers
now_registers_by true m t = refl
now_registers_by false m t = refl

pub now_registers : (ms : List Move) (t : Words) → (now_all ms t).registers ≡ first_all ms t.registers
now_registers [] t = refl
now_registers (m ∷ ms) t = now_registers ms (now_by m.part.waits m t) ∙ ap (first_all ms) (now_registers_by m.part.waits m t)

behind_registers_by : (b : Bool) (m : Move) (t : Words) → (behind_by b m t).registers ≡ behind_one b m t.registers
behind_registers_by true m t = refl
behind_registers_by false m t = refl

pub behind_registers : (ms : List Move) (t : Words) → (behind_all ms t).registers ≡ last_all ms t.registers
behind_registers [] t = refl
behind_registers (m ∷ ms) t = behind_registers ms (behind_by m.part.waits m t) ∙ ap (last_all ms) (behind_registers_by m.part.waits m t)

-- scratch words: each component has its own
abbrev pub OtherScratch : Move → Move → Type 0
OtherScratch m n = m.part.scratch ≡ n.part.scratch → ⊥

now_scratch_by : (b : Bool) (m : Move) (t : Words) (x : ℕ) → (x ≡ m.part.scratch → ⊥) → (now_by b m t).scratch x ≡ t.scratch x
now_scratch_by true m t x h = set_elsewhere t m.part.scratch m.word' x h
now_scratch_by false m t x h = refl

pub now_scratch : (ms : List Move) (t : Words) (x : ℕ) → Each (λ m. x ≡ m.part.scratch → ⊥) ms → (now_all ms t).scratch x ≡ t.scratch x
now_scratch [] t x h = refl
now_scratch (m ∷ ms) t x h = now_scratch ms (now_by m.part.waits m t) x h.1 ∙ now_scratch_by m.part.waits m t x h.0

-- what a lane needs beside its registers: scratch words below 10 as they are
abbrev pub Same : Words → Words → Type 0
Same t u = (n : ℕ) → n < 10 → u.scratch n ≡ t.scratch n

-- THE STATEMENTS. `Keeps` is what writes and values need of scratch words, and `Sees` what the word of a component needs of registers.
pub record Good (g : Spaces) (s : Setting) (Keeps : Words → Type 0) (Sees : Move → Registers → Type 0) (m : Move) : Type 0 where
  pub high : 10 ≤ m.part.scratch
  pub writes : (t : Words) (v : Term) → Keeps t → value g s t v ≡ word m.word' → Leads g s (write g m.part v) t (words t.scratch (put m t.registers))
  pub evaluates : (t : Words) → Keeps t → Sees m t.registers → value g s t m.part.value ≡ word m.word'

-- what a component that is written now leaves is still seen behind it
abbrev pub Unread : (Move → Registers → Type 0) → Move → Move → Type 0
Unread Sees m n = m.part.waits ≡ false → (r : Registers) → Sees n r → Sees n (put m r)

module _ (g : Spaces) (s : Setting) (Keeps : Words → Type 0) (keeps_same : (t u : Words) → Same t u → Keeps t → Keeps u)
    (Sees : Move → Registers → Type 0) where
  now_leads_by : (b : Bool) (m : Move) → Good g s Keeps Sees m → (t : Words) → Keeps t → Sees m t.registers
      → Leads g s (if b then Set m.part.scratch m.part.value else write g m.part m.part.value) t (now_by b m t)
  now_leads_by true m h t k l = leads_set g s t m.part.scratch m.word' m.part.value (h.evaluates t k l)
  now_leads_by false m h t k l = h.writes t m.part.value k (h.evaluates t k l)

  now_same : (b : Bool) (m : Move) → Good g s Keeps Sees m → (t : Words) → Same t (now_by b m t)
  now_same true m h t n l = let high = h.high in set_elsewhere t m.part.scratch m.word' n (λ e. omega arith)
  now_same false m h t n l = refl

  still : (b : Bool) (m n : Move) (t : Words) → (b ≡ false → (r : Registers) → Sees n r → Sees n (put m r)) → Sees n t.registers
      → Sees n (now_by b m t).registers
  still true m n t h l = l
  still false m n t h l = h refl t.registers l

  still_all : (m : Move) (t : Words) (ms : List Move) → Each (Unread Sees m) ms → Each (λ n. Sees n t.registers) ms
      → Each (λ n. Sees n (now_by m.part.waits m t).registers) ms
  still_all m t [] h l = tt
  still_all m t (n ∷ ms) h l = (still m.part.waits m n t h.0 l.0, still_all m t ms h.1 l.1)

  pub now_keeps : (ms : List Move) → Each (Good g s Keeps Sees) ms → (t : Words) → Keeps t → Keeps (now_all ms t)
  now_keeps [] h t k = k
  now_keeps (m ∷ ms) h t k = now_keeps ms h.1 (now_by m.part.waits m t) (keeps_same t (now_by m.part.waits m t) (now_same m.part.waits m h.0 t) k)

  pub now_leads : (ms : List Move) → Each (Good g s Keeps Sees) ms → Pairs (Unread Sees) ms → (t : Words) → Keeps t → Each (λ m. Sees m t.registers)
      ms
      → LeadsAll g s (map (now g) (map (λ m. m.part) ms)) t (now_all ms t)
  now_leads [] h f t k l = refl
  now_leads (m ∷ ms) h f t k l =
      let u = now_by m.part.waits m t in (
        u,
        now_leads_by m.part.waits m h.0 t k l.0,
        now_leads ms h.1 f.1 u (keeps_same t u (now_same m.part.waits m h.0 t) k) (still_all m t ms f.0 l.1),
      )

  -- those that wait are in their scratch words
  abbrev pub Waits : Words → Move → Type 0
  Waits t m = m.part.waits ≡ true → t.scratch m.part.scratch ≡ m.word'

  there : (b : Bool) (m : Move) (t : Words) → b ≡ true → (now_by b m t).scratch m.part.scratch ≡ m.word'
  there true m t e = set_there t m.part.scratch m.word'
  there false m t e = absurd (false≢true e)

  pub waiting : (ms : List Move) → Pairs OtherScratch ms → (t : Words) → Each (Waits (now_all ms t)) ms
  waiting [] h t = tt
  waiting (m ∷ ms) h t =
      (λ e. now_scratch ms (now_by m.part.waits m t) m.part.scratch h.0 ∙ there m.part.waits m t e, waiting ms h.1 (now_by m.part.waits m t))

  behind_leads_by : (b : Bool) (m : Move) → Good g s Keeps Sees m → (t : Words) → Keeps t → (b ≡ true → t.scratch m.part.scratch ≡ m.word')
      → Leads g s (if b then write g m.part (Scratch m.part.scratch) else Nothing) t (behind_by b m t)
  behind_leads_by true m h t k l = h.writes t (Scratch m.part.scratch) k (ap word (l refl))
  behind_leads_by false m h t k l = leads_nothing g s t

  behind_scratch : (b : Bool) (m : Move) (t : Words) → (behind_by b m t).scratch ≡ t.scratch
  behind_scratch true m t = refl
  behind_scratch false m t = refl

  waits_on : (t u : Words) → u.scratch ≡ t.scratch → (ms : List Move) → Each (Waits t) ms → Each (Waits u) ms
  waits_on t u e [] h = tt
  waits_on t u e (m ∷ ms) h = (λ w. ap (λ f. f m.part.scratch) e ∙ h.0 w, waits_on t u e ms h.1)

  pub behind_leads : (ms : List Move) → Each (Good g s Keeps Sees) ms → (t : Words) → Keeps t → Each (Waits t) ms
      → LeadsAll g s (map (behind g) (map (λ m. m.part) ms)) t (behind_all ms t)
  behind_leads [] h t k l = refl
  behind_leads (m ∷ ms) h t k l =
      let u = behind_by m.part.waits m t in
      let e = behind_scratch m.part.waits m t in (
        u,
        behind_leads_by m.part.waits m h.0 t k l.0,
        behind_leads ms h.1 u (keeps_same t u (λ n b. ap (λ f. f n) e) k) (waits_on t u e ms l.1),
      )

  -- all of them
  pub moves_lead : (ms : List Move) → Each (Good g s Keeps Sees) ms → Pairs (Unread Sees) ms → Pairs OtherScratch ms → (t : Words) → Keeps t
      → Each (λ m. Sees m t.registers) ms
      → LeadsAll g s (map (now g) (map (λ m. m.part) ms) ++ map (behind g) (map (λ m. m.part) ms)) t (behind_all ms (now_all ms t))
  moves_lead ms h f o t k l =
      leads_all g s (map (now g) (map (λ m. m.part) ms)) (map (behind g) (map (λ m. m.part) ms)) t (now_all ms t) (behind_all ms (now_all ms t))
      (now_leads ms h f t k l) (behind_leads ms h (now_all ms t) (now_keeps ms h t k) (waiting ms o t))

pub moved_registers : (ms : List Move) → Pairs Commutes ms → (t : Words) → (behind_all ms (now_all ms t)).registers ≡ all ms t.registers
moved_registers ms h t = behind_registers ms (now_all ms t) ∙ (ap (last_all ms) (now_registers ms t) ∙ reordered ms h t.registers)

pub all_append : (ms ns : List Move) (r : Registers) → all (ms ++ ns) r ≡ all ns (all ms r)
all_append [] ns r = refl
all_append (m ∷ ms) ns r = all_append ms ns (put m r)
