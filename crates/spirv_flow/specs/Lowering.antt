-- The blocks of a statement: a layout whose pieces do what the statement's parts say. Tables lead from piece to piece.
-- A label begins with a table that knows no ids, and a branch to it stands where no word waits to be stored.
use Rattle.std.specs.Prelude.{◌≡◌, ℕ, List, []}
use Rattle.spirv_words.specs.Text.{Instr}
use Rattle.spirv_words.specs.Globals.{Machine}
use Rattle.spirv_words.specs.Lane.{State}
use Rattle.shader_tree.specs.Terms.{Term}
use Rattle.shader_tree.specs.Terms as term
use Rattle.shader_tree.specs.Values.{Spaces, Words}
use Rattle.spirv_flow.specs.Layout.{Layout, Straight, Both, Guarded, Chosen, Looped, Switched, CaseAt, DefaultAt, Breaks, Continues, Returns}
use Rattle.spirv_flow.specs.Pieces.{Passes, Always, Tests, Measures, Does}

module _ (m : Machine) {Table : Type 0} (Holds : Table → State → Words → Type 0) (IsClean IsNew : Table → Type 0) where
  -- A body that stands in a block of its own, with the code behind it that stores what waits.
  pub record IsBody (Lowers : Layout → Table → Table → Type 0) (body : Layout) (back : List Instr) : Type 0 where
    pub begun : Table
    pub ended : Table
    pub last : Table
    pub is_begun : IsNew begun
    pub lowers : Lowers body begun ended
    pub passes : Passes m Holds back ended last
    pub is_clean : IsClean last

  -- A block that a label begins behind what waits: of a case, or behind a branch that always leads away.
  pub record IsMarked (Lowers : Layout → Table → Table → Type 0) (front : List Instr) (next : Layout) (a z : Table) :
      Type 0 where
    pub clean : Table
    pub begun : Table
    pub passes : Passes m Holds front a clean
    pub is_clean : IsClean clean
    pub is_begun : IsNew begun
    pub lowers : Lowers next begun z

  pub record IsAway (front : List Instr) (r : ℕ) (a z : Table) : Type 0 where
    pub clean : Table
    pub always : Always m Holds front a clean r
    pub is_clean : IsClean clean
    pub behind : IsNew z

  module _ (g : Spaces) where
    pub record IsGuard (Lowers : Layout → Table → Table → Type 0) (e : Term) (l : Layout) (a z : Table) : Type 0 where
      pub front : List Instr
      pub back : List Instr
      pub r : ℕ
      pub inside : ℕ
      pub merge : ℕ
      pub body : Layout
      pub layout : l ≡ Both (Straight front) (Guarded r inside merge (Both body (Straight back)))
      pub clean : Table
      pub tests : Tests m Holds g e front a clean r
      pub is_clean : IsClean clean
      pub is_body : IsBody Lowers body back
      pub behind : IsNew z

    pub record IsChoice (First Second : Layout → Table → Table → Type 0) (e : Term) (l : Layout) (a z : Table) : Type 0
      where
        pub front : List Instr
        pub first_back : List Instr
        pub second_back : List Instr
        pub r : ℕ
        pub first_label : ℕ
        pub second_label : ℕ
        pub merge : ℕ
        pub first : Layout
        pub second : Layout
        pub layout : l ≡ Both (Straight front)
            (Chosen r first_label second_label merge (Both first (Straight first_back))
            (Both second (Straight second_back)))
        pub clean : Table
        pub tests : Tests m Holds g e front a clean r
        pub is_clean : IsClean clean
        pub is_first : IsBody First first first_back
        pub is_second : IsBody Second second second_back
        pub behind : IsNew z

    pub record IsLoop (Lowers : Layout → Table → Table → Type 0) (l : Layout) (a z : Table) : Type 0 where
      pub front : List Instr
      pub back : List Instr
      pub header : ℕ
      pub inside : ℕ
      pub continue : ℕ
      pub merge : ℕ
      pub body : Layout
      pub layout : l ≡ Both (Straight front) (Looped header inside continue merge (Both body (Straight back)))
      pub clean : Table
      pub passes : Passes m Holds front a clean
      pub is_clean : IsClean clean
      pub is_body : IsBody Lowers body back
      pub behind : IsNew z

    pub record IsSwitch (Lowers : Layout → Table → Table → Type 0) (e : Term) (l : Layout) (a z : Table) : Type 0 where
      pub front : List Instr
      pub back : List Instr
      pub r : ℕ
      pub inside : ℕ
      pub merge : ℕ
      pub body : Layout
      pub layout : l ≡ Both (Straight front) (Switched r inside merge (Both body (Straight back)))
      pub clean : Table
      pub measures : Measures m Holds g e front a clean r
      pub is_clean : IsClean clean
      pub is_body : IsBody Lowers body back
      pub behind : IsNew z

    abbrev IsLeaf : Term → Layout → Table → Table → Type 0
    IsLeaf x l a z = (code : List Instr) × (l ≡ Straight code) × Does m Holds g x code a z

    abbrev pub Lowered : Term → Layout → Table → Table → Type 0
    Lowered (term.Set n v) l a z = IsLeaf (term.Set n v) l a z
    Lowered (term.Write space at v) l a z = IsLeaf (term.Write space at v) l a z
    Lowered (term.Load n room at) l a z = IsLeaf (term.Load n room at) l a z
    Lowered (term.Store room at v) l a z = IsLeaf (term.Store room at v) l a z
    Lowered (term.Atomic n room at kind x y) l a z = IsLeaf (term.Atomic n room at kind x y) l a z
    Lowered (term.Sync threads scope classes) l a z = IsLeaf (term.Sync threads scope classes) l a z
    Lowered (term.Guard e body) l a z = IsGuard (λ k b c. Lowered body k b c) e l a z
    Lowered (term.If e x y) l a z = IsChoice (λ k b c. Lowered x k b c) (λ k b c. Lowered y k b c) e l a z
    Lowered (term.Loop body) l a z = IsLoop (λ k b c. Lowered body k b c) l a z
    Lowered (term.Switch on cases) l a z = IsSwitch (λ k b c. Lowered cases k b c) on l a z
    Lowered (term.Case v next) l a z =
        (front : List Instr) × (k : ℕ) × (x : Layout) × (l ≡ Both (Both (Straight front) (CaseAt v k)) x)
        × IsMarked (λ j b c. Lowered next j b c) front x a z
    Lowered (term.Default next) l a z =
        (front : List Instr) × (k : ℕ) × (x : Layout) × (l ≡ Both (Both (Straight front) (DefaultAt k)) x)
        × IsMarked (λ j b c. Lowered next j b c) front x a z
    Lowered term.Break l a z =
        (front : List Instr) × (r : ℕ) × (i : ℕ) × (k : ℕ) × (n : ℕ) ×
        (l ≡ Both (Straight front) (Guarded r i k (Breaks n)))
        × IsAway front r a z
    Lowered term.Continue l a z =
        (front : List Instr) × (r : ℕ) × (i : ℕ) × (k : ℕ) × (n : ℕ) ×
        (l ≡ Both (Straight front) (Guarded r i k (Continues n)))
        × IsAway front r a z
    Lowered term.Return l a z =
        (front : List Instr) × (r : ℕ) × (i : ℕ) × (k : ℕ) × (n : ℕ) ×
        (l ≡ Both (Straight front) (Guarded r i k (Returns n)))
        × (b : Table) × Always m Holds front a b r
    Lowered (term.Then x y) l a z =
        (b : Table) × (j : Layout) × (k : Layout) × (l ≡ Both j k) × Lowered x j a b × Lowered y k b z
    Lowered term.Nothing l a z = (l ≡ Straight []) × (a ≡ z)
    Lowered expression l a z = ⊥
