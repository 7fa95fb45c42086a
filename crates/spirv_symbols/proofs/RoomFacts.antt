-- The variables of rooms in a module: where they are bound, and the slots of shared memory.
use Rattle.std.proofs.Common.{◌≡◌, ℕ, List, Some, ap, ◌∙◌}
use Rattle.std.specs.Prelude.{slice_get, nat_eq, find, option_and_then, position}
use Rattle.word_base.specs.declared.event.Room.TheVariants.{Shared}
use Rattle.spirv_words.specs.Decoration as decorations
use Rattle.spirv_words.specs.Text.{Instr}
use Rattle.spirv_words.specs.Globals.{decorates, decoration, workgroup_ids}
use Rattle.spirv_symbols.specs.declared.symbol.Symbol.{Symbol}
use Rattle.spirv_symbols.specs.declared.symbol.Symbol.TheVariants.{Memory}
use Rattle.spirv_symbols.specs.declared.row.Marks.TheVariants.{Bound}
use Rattle.spirv_symbols.specs.declared.numbered.Numbered.{Numbered}
use Rattle.spirv_symbols.specs.Contexts.{Context}
use Rattle.spirv_symbols.specs.Rows.{row_of, decorations_by}
use Rattle.spirv_symbols.specs.Tables.{Table, Has}
use Rattle.spirv_symbols.specs.Modules.{Kind, IsReady, IsBody, module_code, globals_of}
use Rattle.spirv_symbols.specs.Starts.{shared_slots}
use Rattle.spirv_symbols.proofs.DecorationLookups.{aims}
use Rattle.spirv_symbols.proofs.Ids.{place_of}
use Rattle.spirv_symbols.proofs.StartValues.{is_shared, first_bound, second_bound, shared_at, at_found}
use Rattle.spirv_symbols.proofs.StartsWhole.{declares}

pub sets : (c : Context) (kind : Kind) (t : Table) (cs : List Numbered) (body : List Instr) (s : Symbol) (x set binding : ℕ) → IsReady c t cs
    → IsBody body → Has t.entries s x → (row_of c s).marks ≡ Bound set binding
    → decoration (module_code c kind t.entries cs body) x decorations.DescriptorSet ≡ Some set
sets c kind t cs body s x set binding r b h e =
    ap (option_and_then (λ (i : Instr). slice_get i.operands 2))
    ((declares c kind t cs r body b).decorated s x (decorates x decorations.DescriptorSet) h (aims x decorations.DescriptorSet)
    ∙ ap (λ m. find (decorates x decorations.DescriptorSet) (decorations_by x m)) e)
    ∙ first_bound x set binding

pub bindings : (c : Context) (kind : Kind) (t : Table) (cs : List Numbered) (body : List Instr) (s : Symbol) (x set binding : ℕ) → IsReady c t cs
    → IsBody body → Has t.entries s x → (row_of c s).marks ≡ Bound set binding
    → decoration (module_code c kind t.entries cs body) x decorations.Binding ≡ Some binding
bindings c kind t cs body s x set binding r b h e =
    ap (option_and_then (λ (i : Instr). slice_get i.operands 2))
    ((declares c kind t cs r body b).decorated s x (decorates x decorations.Binding) h (aims x decorations.Binding)
    ∙ ap (λ m. find (decorates x decorations.Binding) (decorations_by x m)) e)
    ∙ second_bound x set binding

pub slots : (c : Context) (kind : Kind) (t : Table) (cs : List Numbered) (body : List Instr) (slot x : ℕ) → IsReady c t cs → IsBody body
    → Has t.entries (Memory (Shared slot)) x
    → option_and_then (slice_get (shared_slots t.entries)) (position (nat_eq x) (workgroup_ids (module_code c kind t.entries cs body))) ≡ Some slot
slots c kind t cs body slot x r b h =
    let ids = (declares c kind t cs r body b).variables is_shared in
    let at = shared_at t.entries h.0 x slot h.1 (λ i j f g y z q. place_of c t.entries t.next i j f g r.stands.table y z q) in
    ap (λ l. option_and_then (slice_get (shared_slots t.entries)) (position (nat_eq x) l)) ids
    ∙ at_found x slot (globals_of is_shared t.entries) (shared_slots t.entries) at
