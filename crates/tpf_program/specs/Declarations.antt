-- The rules on declarations. (Direct3D 11 functional specification: the limits of compute shaders and of registers.)
use Rattle.std.specs.Prelude.{ℕ, ◌+◌, ◌*◌, ◌%◌, nat_eq, nat_lt, nat_le, not, ◌&&◌, ◌||◌, Bool, true, false, List, [], ◌∷◌, ◌++◌, sum_by}
use Rattle.std.specs.List.{list_any}
use Rattle.word_base.specs.declared.rule.Refusal.{Refusal}
use Rattle.word_base.specs.declared.rule.Rule.TheVariants.{L1, L2, L3, L4, L7}
use Rattle.word_base.specs.Rules.{broken}
use Rattle.word_base.specs.Settings.{Axes, axes}
use Rattle.tpf_program.specs.declared.declaration.ViewKind.{ViewKind}
use Rattle.tpf_program.specs.declared.declaration.ViewKind.TheVariants as view
use Rattle.tpf_program.specs.declared.declaration.SharedKind.{SharedKind}
use Rattle.tpf_program.specs.declared.declaration.SharedKind.TheVariants as shared
use Rattle.tpf_program.specs.declared.declaration.Declaration.{Declaration}
use Rattle.tpf_program.specs.declared.declaration.Declaration.TheVariants.{Flags, Constants, Resource, Uav, Shared, Input, Temps, Indexable, Group, ImmediateConstants}
use Rattle.tpf_program.specs.declared.declaration.Declared.{Declared}
use Rattle.tpf_decode.specs.declared.argument.Kind.{Kind}
use Rattle.tpf_decode.specs.declared.argument.Kind.TheVariants.{ThreadId, GroupId, IdInGroup, FlatId}
use Rattle.tpf_program.specs.Program.{Shader}

-- the thread ids that a `dcl_input` may name
abbrev pub same_id : Kind → Kind → Bool
same_id ThreadId ThreadId = true
same_id GroupId GroupId = true
same_id IdInGroup IdInGroup = true
same_id FlatId FlatId = true
same_id a b = false

-- two declarations of one thing: a slot of one register kind, a thread id, the temps, the flags, the group, the immediate constants
abbrev pub same_thing : Declaration → Declaration → Bool
same_thing (Flags a) (Flags b) = true
same_thing (Constants slot a) (Constants other b) = nat_eq slot other
same_thing (Resource slot a) (Resource other b) = nat_eq slot other
same_thing (Uav slot a b c) (Uav other d e f) = nat_eq slot other
same_thing (Shared slot a) (Shared other b) = nat_eq slot other
same_thing (Input a s) (Input b t) = same_id a b
same_thing (Temps a) (Temps b) = true
same_thing (Indexable slot a b) (Indexable other c d) = nat_eq slot other
same_thing (Group a b c) (Group d e f) = true
same_thing (ImmediateConstants a) (ImmediateConstants b) = true
same_thing a b = false

-- the bytes of shared memory, and the r# registers and x# elements, that a declaration takes
abbrev pub shared_bytes : Declaration → ℕ
shared_bytes (Shared slot (shared.Raw bytes)) = bytes
shared_bytes (Shared slot (shared.Structured stride count)) = stride * count
shared_bytes other = 0

abbrev pub register_count : Declaration → ℕ
register_count (Temps count) = count
register_count (Indexable slot count components) = count
register_count other = 0

-- a sum over the declarations, which begins with a number, passes its limit first at this one
abbrev pub first_past : ℕ → ℕ → (Declaration → ℕ) → List Declared → Declaration → Bool
first_past limit first measure before what =
    nat_le (first + sum_by (λ d. measure d.what) before) limit
    && nat_lt limit (first + sum_by (λ d. measure d.what) before + measure what)

abbrev pub is_from_to : ℕ → ℕ → ℕ → Bool
is_from_to low high n = nat_le low n && nat_le n high

abbrev pub is_group : ℕ → ℕ → ℕ → Bool
is_group x y z = is_from_to 1 1024 x && (is_from_to 1 1024 y && (is_from_to 1 64 z && nat_le (x * y * z) 1024))

abbrev pub has_structures : SharedKind → Bool
has_structures (shared.Raw bytes) = true
has_structures (shared.Structured stride count) = nat_le 1 count

abbrev pub is_within : Declaration → Bool
is_within (Constants slot size) = nat_lt slot 14 && is_from_to 1 4096 size
is_within (Resource slot view) = nat_lt slot 128
is_within (Uav slot view coherent ordered) = nat_lt slot 64
is_within (Shared slot kind) = nat_lt slot 64 && has_structures kind
is_within (Indexable slot count components) = nat_lt slot 4096 && (nat_le 1 count && is_from_to 1 4 components)
is_within (Group x y z) = is_group x y z
is_within other = true

-- where so many registers count in front of all declarations
abbrev pub is_past_limit : ℕ → List Declared → Declaration → Bool
is_past_limit first before what =
    not (is_within what) || (first_past 32768 0 shared_bytes before what || first_past 4096 first register_count before what)

-- sizes in bytes that are whole words
abbrev pub is_stride : ViewKind → Bool
is_stride view.Raw = true
is_stride (view.Structured stride) = nat_eq (stride % 4) 0 && is_from_to 4 2048 stride

abbrev pub is_shared_size : SharedKind → Bool
is_shared_size (shared.Raw bytes) = nat_eq (bytes % 4) 0 && nat_le 4 bytes
is_shared_size (shared.Structured stride count) = nat_eq (stride % 4) 0 && nat_le 4 stride

abbrev pub has_sizes : Declaration → Bool
has_sizes (Resource slot kind) = is_stride kind
has_sizes (Uav slot kind coherent ordered) = is_stride kind
has_sizes (Shared slot kind) = is_shared_size kind
has_sizes other = true

abbrev pub declares_group : Declaration → Bool
declares_group (Group x y z) = true
declares_group other = false

-- the broken rules of one declaration, behind those before it
abbrev pub refusals_at : ℕ → Shader → List Declared → Declared → List Refusal
refusals_at first p before d =
    broken (list_any (λ e. same_thing e.what d.what) before) L1 d.place
    ++ broken (list_any (λ i. nat_lt i.place d.place) p.instructions) L2 d.place
    ++ broken (is_past_limit first before d.what) L3 d.place
    ++ broken (not (has_sizes d.what)) L7 d.place

abbrev pub refusals_from : ℕ → Shader → List Declared → List Declared → List Refusal
refusals_from first p before [] = []
refusals_from first p before (d ∷ rest) = refusals_at first p before d ++ refusals_from first p (before ++ d ∷ []) rest

-- the broken rules of all declarations, where so many registers count in front of them: none in the base profile
abbrev pub declaration_refusals : ℕ → Shader → List Refusal
declaration_refusals first p =
    refusals_from first p [] p.declarations ++ broken (not (list_any (λ d. declares_group d.what) p.declarations)) L4 p.words

abbrev pub threads_declared : Declaration → Axes → Axes
threads_declared (Group x y z) others = axes x y z
threads_declared other others = others

-- the threads of a program's group, by the first declaration of one; without one there are none
abbrev pub threads_in : List Declared → Axes
threads_in [] = axes 0 0 0
threads_in (d ∷ rest) = threads_declared d.what (threads_in rest)
