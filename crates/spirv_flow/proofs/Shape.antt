-- A layout by numbers: how many blocks it has, and its constructs and branches by the blocks' numbers.
use Rattle.std.proofs.Common.{ℕ, ◌+◌, List, [], ◌∷◌, ◌++◌, map, Option, Some, None}
use Rattle.std.specs.Prelude.{unwrap_or}
use Rattle.spirv_words.specs.Blocks.{Edge, edge, Span, Kind, Selection, Loop, Choice}
use Rattle.spirv_flow.specs.Layout.{Layout, Straight, Both, Guarded, Chosen, Looped, Switched, CaseAt, DefaultAt, Breaks, Continues, Returns, first_of}

abbrev pub blocks : Layout → ℕ
blocks (Straight code) = 0
blocks (Both x y) = blocks x + blocks y
blocks (Guarded t i m x) = blocks x + 2
blocks (Chosen t y n m x z) = blocks x + blocks z + 3
blocks (Looped h i c m x) = blocks x + 4
blocks (Switched on i m x) = blocks x + 2
blocks (CaseAt v l) = 1
blocks (DefaultAt l) = 1
blocks (Breaks next) = 1
blocks (Continues next) = 1
blocks (Returns next) = 1

-- the blocks of the cases that stand directly in a layout which begins in block b, and of the first default
abbrev pub targets : Layout → ℕ → List ℕ
targets (CaseAt v l) b = (b + 1) ∷ []
targets (Both x y) b = targets x b ++ targets y (b + blocks x)
targets x b = []

abbrev pub other : Layout → ℕ → Option ℕ
other (DefaultAt l) b = Some (b + 1)
other (Both x y) b = first_of (other x b) (other y (b + blocks x))
other x b = None

abbrev pub span : ℕ → ℕ → Kind → Span
span h m k = record { header = h; merge = m; kind = k }

abbrev pub constructs : Layout → ℕ → List Span
constructs (Both x y) b = constructs x b ++ constructs y (b + blocks x)
constructs (Guarded t i m x) b = span b (b + 1 + blocks x + 1) Selection ∷ constructs x (b + 1)
constructs (Chosen t y n m x z) b =
    span b (b + 1 + blocks x + 1 + blocks z + 1) Selection ∷ (constructs x (b + 1) ++ constructs z (b + 1 + blocks x + 1))
constructs (Looped h i c m x) b =
    span (b + 1) (b + 1 + 1 + blocks x + 1 + 1) (Loop (b + 1 + 1 + blocks x + 1)) ∷ constructs x (b + 1 + 1)
constructs (Switched on i m x) b =
    let e = b + 1 + blocks x + 1 in
    span b e (Choice (unwrap_or (other x (b + 1)) e) (targets x (b + 1))) ∷ constructs x (b + 1)
constructs x b = []

-- its branches, where a break leads to the block brk and a continue to the block cont
abbrev pub branches : Layout → ℕ → ℕ → ℕ → List Edge
branches (Both x y) b brk cont = branches x b brk cont ++ branches y (b + blocks x) brk cont
branches (Guarded t i m x) b brk cont =
    let e = b + 1 + blocks x in edge b (b + 1) ∷ edge b (e + 1) ∷ (branches x (b + 1) brk cont ++ (edge e (e + 1) ∷ []))
branches (Chosen t y n m x z) b brk cont =
    let e = b + 1 + blocks x in
    let f = e + 1 + blocks z in
    edge b (b + 1) ∷ edge b (e + 1) ∷
    (branches x (b + 1) brk cont ++ (edge e (f + 1) ∷ (branches z (e + 1) brk cont ++ (edge f (f + 1) ∷ []))))
branches (Looped h i c m x) b brk cont =
    let e = b + 1 + 1 + blocks x in
    edge b (b + 1) ∷ edge (b + 1) (b + 1 + 1) ∷ (branches x (b + 1 + 1) (e + 1 + 1) (e + 1) ++ (edge e (e + 1) ∷ edge (e + 1) (b + 1) ∷ []))
branches (Switched on i m x) b brk cont =
    let e = b + 1 + blocks x in
    edge b (unwrap_or (other x (b + 1)) (e + 1)) ∷
    (map (edge b) (targets x (b + 1)) ++ (branches x (b + 1) (e + 1) cont ++ (edge e (e + 1) ∷ [])))
branches (CaseAt v l) b brk cont = edge b (b + 1) ∷ []
branches (DefaultAt l) b brk cont = edge b (b + 1) ∷ []
branches (Breaks next) b brk cont = edge b brk ∷ []
branches (Continues next) b brk cont = edge b cont ∷ []
branches x b brk cont = []
