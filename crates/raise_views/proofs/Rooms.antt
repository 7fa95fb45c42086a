-- The room of an instruction is one that the program has; what is stored to or changed is no read-only view.
use Rattle.std.proofs.Common.{◌≡◌, ℕ, Bool, true, false, List, [], ◌∷◌, Option, Some, None, refl, sym, ap, subst, ◌∙◌, inl, inr}
use Rattle.std.specs.Prelude.{not, ◌&&◌, ◌||◌, IsTrue, is_none}
use Rattle.std.specs.List.{list_any, list_all}
use Rattle.std.proofs.lemmas.Bool.{and_parts, false≢true, not-false, or_parts}
use Rattle.word_base.specs.declared.event.Room.{Room}
use Rattle.tpf_decode.specs.Declarations.{declaration_table, layout_of}
use Rattle.tpf_decode.specs.Opcodes.{form_of_meaning, form_of, meaning_of, opcode_table, roles_of}
use Rattle.tpf_decode.specs.Profiles.{Base}
use Rattle.tpf_decode.specs.Roles.{is_allowed, is_named_by, is_read_by, is_resource as of_resource, is_shared, is_uav}
use Rattle.tpf_decode.specs.declared.argument.Argument.{Argument}
use Rattle.tpf_decode.specs.declared.argument.Kind.{Kind}
use Rattle.tpf_decode.specs.declared.argument.Kind.TheVariants as kind
use Rattle.tpf_decode.specs.declared.argument.Role.TheVariants.{ViewName}
use Rattle.tpf_decode.specs.declared.meaning.Meaning.{Meaning}
use Rattle.tpf_decode.specs.declared.meaning.Meaning.TheVariants.{LoadRaw, LoadStructured, StoreRaw, StoreStructured, Measures, Acts, Compares, Fetches, Exchanges, Allocates, Consumes, Syncs}
use Rattle.tpf_decode.specs.declared.opcode.Form.{Form}
use Rattle.tpf_decode.specs.declared.opcode.Form.TheVariants.{Counter}
use Rattle.tpf_program.specs.Extents.{steps_counter}
use Rattle.tpf_program.specs.Program.{Shader}
use Rattle.tpf_program.specs.Spelling.{operands}
use Rattle.tpf_program.specs.Uses.{is_missing, operand_uses, use_of}
use Rattle.tpf_program.specs.Views as views
use Rattle.tpf_program.specs.declared.instruction.Instruction.{Instruction}
use Rattle.raise_operands.specs.Raises.{Take, roles_in}
use Rattle.raise_views.specs.Guarding.{is_guarded, room_by, view_of}
use Rattle.raise_views.specs.Guards.{IsGuardable, has_room, is_resource}
use Rattle.raise_views.proofs.Given.{any_at, codes_for, code_among, In, steps_it}
use Rattle.raise_views.proofs.Naming.{IsThere}

-- the types of views
abbrev pub is_view : Kind → Bool
is_view k = of_resource k || (is_uav k || is_shared k)

abbrev pub is_written : Kind → Bool
is_written k = is_uav k || is_shared k

pub read_view : (code : ℕ) (k : Kind) → is_read_by code k ≡ true → is_view k ≡ true
read_view code kind.Resource h = refl
read_view code kind.Uav h = refl
read_view code kind.Shared h = refl
read_view code other h = absurd (false≢true h)

pub written_view : (k : Kind) → is_written k ≡ true → is_view k ≡ true
written_view kind.Uav h = refl
written_view kind.Shared h = refl
written_view other h = absurd (false≢true h)

named_written : (f : Option Form) (k : Kind) → is_named_by None f k ≡ true → is_written k ≡ true
named_written (Some Counter) kind.Uav h = refl
named_written (Some Counter) other h = absurd (false≢true h)
named_written other k h = h

-- no instruction that names a view is a declaration
abbrev names_view : Meaning → Bool
names_view (Acts kind) = true
names_view Compares = true
names_view (Fetches kind) = true
names_view Exchanges = true
names_view Allocates = true
names_view Consumes = true
names_view other = false

all_in : (f : ℕ → Bool) (ns : List ℕ) (n : ℕ) → In n ns → list_all f ns ≡ true → f n ≡ true
all_in f [] n h e = absurd h
all_in f (m ∷ ms) n (inl q) e = ap f q ∙ (and_parts (f m) (list_all f ms) e).0
all_in f (m ∷ ms) n (inr h) e = all_in f ms n h (and_parts (f m) (list_all f ms) e).1

no_layouts : list_all (λ n. is_none (layout_of Base n)) (codes_for names_view opcode_table) ≡ true
unfolding opcode_table layout_of declaration_table
no_layouts = refl

none_is : {X : Type 0} (o : Option X) → is_none o ≡ true → o ≡ None
none_is None h = refl
none_is (Some x) h = absurd (false≢true h)

no_layout : (code : ℕ) (m : Meaning) → meaning_of Base code ≡ Some m → names_view m ≡ true → layout_of Base code ≡ None
unfolding meaning_of
no_layout code m h e = none_is (layout_of Base code) (all_in (λ n. is_none (layout_of Base n)) (codes_for names_view opcode_table) code
    (code_among names_view code opcode_table m h e) no_layouts)

name_written : (code : ℕ) (m : Meaning) (k : Kind) → meaning_of Base code ≡ Some m → names_view m ≡ true → is_allowed Base code ViewName k ≡ true
    → is_written k ≡ true
name_written code m k h e q = named_written (form_of Base code) k (subst (λ o. is_named_by o (form_of Base code) k ≡ true) (no_layout code m h e) q)

-- A VIEW THAT IS NAMED is declared.
has_view : (p : Shader) (k : Kind) (slot : ℕ) → is_view k ≡ true → is_missing p.declarations (use_of k slot) ≡ false
    → has_room p (views.room_by k slot) ≡ true
has_view p kind.Resource slot h e = not-false _ e
has_view p kind.Uav slot h e = not-false _ e
has_view p kind.Shared slot h e = not-false _ e
has_view p other slot h e = absurd (false≢true h)

has_it : (p : Shader) (a : Argument) → is_view a.kind ≡ true → list_any (is_missing p.declarations) (operand_uses a) ≡ false
    → has_room p (views.room_of a) ≡ true
has_it p a h e = has_view p a.kind a.slot h (or_parts (is_missing p.declarations (use_of a.kind a.slot)) _ e).0

writable : (k : Kind) (slot : ℕ) → is_written k ≡ true → IsTrue (not (is_resource (views.room_by k slot)))
writable kind.Uav slot h = refl
writable kind.Shared slot h = refl
writable other slot h = absurd (false≢true h)

both_true : (a b : Bool) → a ≡ true → b ≡ false → IsTrue (a && not b)
both_true true false h k = refl
both_true true true h k = absurd (false≢true (sym k))
both_true false b h k = absurd (false≢true h)

-- those that store or change
abbrev pub changes : Meaning → Bool
changes StoreRaw = true
changes StoreStructured = true
changes (Acts kind) = true
changes Compares = true
changes (Fetches kind) = true
changes Exchanges = true
changes other = false

module _ (p : Shader) (i : Instruction) (able : IsGuardable p i) (m : Meaning) (means : meaning_of Base i.code ≡ Some m) where
  pub types : Take i.code (roles_of (form_of_meaning m)) (operands i)
  types = subst (λ o. Take i.code (roles_in o) (operands i)) means able.there.types

  guards : is_guarded (Some m) ≡ true
  guards = subst (λ o. is_guarded o ≡ true) means able.guards

pub written_of : (p : Shader) (i : Instruction) (able : IsGuardable p i) (m : Meaning) (means : meaning_of Base i.code ≡ Some m) → changes m ≡ true
    → is_written (view_of m i).kind ≡ true
written_of p i able StoreRaw means h = (types p i able StoreRaw means).0
written_of p i able StoreStructured means h = (types p i able StoreStructured means).0
written_of p i able (Acts kind) means h = name_written i.code (Acts kind) i.o0.kind means refl (types p i able (Acts kind) means).0
written_of p i able Compares means h = name_written i.code Compares i.o0.kind means refl (types p i able Compares means).0
written_of p i able (Fetches kind) means h = name_written i.code (Fetches kind) i.o1.kind means refl (types p i able (Fetches kind) means).1.0
written_of p i able Exchanges means h = name_written i.code Exchanges i.o1.kind means refl (types p i able Exchanges means).1.0
written_of p i able other means h = absurd (false≢true h)

room_there : (p : Shader) (i : Instruction) (able : IsGuardable p i) (m : Meaning) (means : meaning_of Base i.code ≡ Some m)
    → is_guarded (Some m) ≡ true → (m ≡ Syncs → ⊥) → has_room p (room_by m i) ≡ true
room_there p i able LoadRaw means h s = has_it p i.o2 (read_view i.code i.o2.kind (types p i able LoadRaw means).1.1.0) able.there.names.1.1.0
room_there p i able LoadStructured means h s = has_it p i.o3 (read_view i.code i.o3.kind (types p i able LoadStructured means).1.1.1.0)
    able.there.names.1.1.1.0
room_there p i able StoreRaw means h s = has_it p i.o0 (written_view i.o0.kind (written_of p i able StoreRaw means refl)) able.there.names.0
room_there p i able StoreStructured means h s = has_it p i.o0 (written_view i.o0.kind (written_of p i able StoreStructured means refl))
    able.there.names.0
room_there p i able Measures means h s = has_it p i.o1 (read_view i.code i.o1.kind (types p i able Measures means).1.0) able.there.names.1.0
room_there p i able (Acts kind) means h s = has_it p i.o0 (written_view i.o0.kind (written_of p i able (Acts kind) means refl)) able.there.names.0
room_there p i able Compares means h s = has_it p i.o0 (written_view i.o0.kind (written_of p i able Compares means refl)) able.there.names.0
room_there p i able (Fetches kind) means h s = has_it p i.o1 (written_view i.o1.kind (written_of p i able (Fetches kind) means refl))
    able.there.names.1.0
room_there p i able Exchanges means h s = has_it p i.o1 (written_view i.o1.kind (written_of p i able Exchanges means refl)) able.there.names.1.0
room_there p i able Allocates means h s = any_at (steps_counter i.o1.slot) p.instructions able.there.number i able.there.there
    (steps_it i Allocates means refl)
room_there p i able Consumes means h s = any_at (steps_counter i.o1.slot) p.instructions able.there.number i able.there.there
    (steps_it i Consumes means refl)
room_there p i able Syncs means h s = absurd (s refl)
room_there p i able other means h s = absurd (cc h)

pub there_of : (is_null : Room → Bool) (p : Shader) (i : Instruction) (able : IsGuardable p i) (m : Meaning) (means : meaning_of Base i.code ≡ Some m)
    → is_guarded (Some m) ≡ true → (m ≡ Syncs → ⊥)
    → is_null (room_by m i) ≡ false → IsThere p is_null (room_by m i)
there_of is_null p i able m means h s n = both_true (has_room p (room_by m i)) (is_null (room_by m i)) (room_there p i able m means h s) n

pub writable_of : (p : Shader) (i : Instruction) (able : IsGuardable p i) (m : Meaning) (means : meaning_of Base i.code ≡ Some m) → changes m ≡ true
    → IsTrue (not (is_resource (views.room_of (view_of m i))))
writable_of p i able m means h = writable (view_of m i).kind (view_of m i).slot (written_of p i able m means h)
