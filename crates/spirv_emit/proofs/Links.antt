-- What a finished module shows of pointers: where ids are defined, and which events go through them.
use Rattle.std.proofs.Common.{◌≡◌, ℕ, zero, suc, ◌+◌, inl, inr, List, [], ◌∷◌, ◌++◌, length, Option, Some, Bool, true, false, refl, sym, ap, ◌∙◌, subst}
use Rattle.std.specs.Prelude.{slice_get, not, cond, ◌&&◌, IsTrue}
use Rattle.std.specs.List.{list_all}
use Rattle.std.proofs.lemmas.Option.{same_Some}
use Rattle.word_base.specs.declared.event.Room.{Room}
use Rattle.shader_tree.specs.Shape.{Item, Loads, Stores}
use Rattle.spirv_words.specs.StorageClass.{has_events}
use Rattle.spirv_words.specs.Roles.{Defined, Nothing, AnImport, AType, ATypeOnce, AConstant, AValue, AFunction, ALabel}
use Rattle.spirv_words.specs.Definitions.{results, are_distinct, is_id, uses_follow, names_are_among, has_single_definitions}
use Rattle.spirv_words.specs.Globals.{Places}
use Rattle.spirv_words.specs.Ids.{ids_of, contains, definition, defines, type_in, type_of, type_of_instr}
use Rattle.spirv_words.specs.Sorts.{Sort, sort_of, sort_of_type, sort_of_value}
use Rattle.spirv_words.specs.Text.{Instr, instr}
use Rattle.spirv_symbols.specs.declared.symbol.Symbol.{Symbol}
use Rattle.spirv_symbols.specs.declared.symbol.Symbol.TheVariants.{AType as AsType, Memory}
use Rattle.spirv_symbols.specs.declared.symbol.TypeSymbol.{TypeSymbol}
use Rattle.spirv_symbols.specs.declared.symbol.TypeSymbol.TheVariants as symbol
use Rattle.spirv_symbols.specs.Tables.{Has}
use Rattle.spirv_emit.specs.Code.{In, Typed, typed, typed_by, typed_result, type_of_symbol}
use Rattle.spirv_emit.specs.Joins.{at_place, with_item, picked}
use Rattle.spirv_emit.specs.Lanes.{Site}
use Rattle.spirv_emit.specs.Linked.{IsPointer, IsLinked, StandsIn}
use Rattle.spirv_emit.specs.ModuleShape.{Mark, Seen, marks_by, base_in, base_back, room_in, pointer_room, marks_of, shape_of}
use Rattle.spirv_emit.specs.Values.{Slot, HasClass, HaveClasses}
use Rattle.spirv_emit.proofs.Lists.{code_front, code_back, in_front, in_back, and_left, and_right, contains_in, in_contains, true_not}

-- CODE that stands in a module.
pub stands_front : (z : Site) (x y : List Instr) → StandsIn z (x ++ y) → StandsIn z x
stands_front z x y h = (h.0, code_front z.machine.code h.0 x y h.1)

pub stands_back : (z : Site) (x y : List Instr) → StandsIn z (x ++ y) → StandsIn z y
stands_back z x y h = (h.0 + length x, code_back z.machine.code h.0 x y h.1)

-- SHAPES of pieces.
list_assoc : {X : Type 0} (a b c : List X) → (a ++ b) ++ c ≡ a ++ (b ++ c)
list_assoc [] b c = refl
list_assoc (x ∷ a) b c = ap (λ l. x ∷ l) (list_assoc a b c)

pub shape_append : (code : List Instr) (places : Places) (x y : List Instr) → shape_of code places (x ++ y) ≡ shape_of code places x ++ shape_of code
    places y
shape_append code places [] y = refl
shape_append code places (i ∷ x) y =
    ap (λ l. marks_of code places i ++ l) (shape_append code places x y)
    ∙ sym (list_assoc (marks_of code places i) (shape_of code places x) (shape_of code places y))

pub quiet_both : (code : List Instr) (places : Places) (x y : List Instr) → shape_of code places x ≡ [] → shape_of code places y ≡ []
    → shape_of code places (x ++ y) ≡ []
quiet_both code places x y g h = shape_append code places x y ∙ (ap (λ l. l ++ shape_of code places y) g ∙ h)

nothing_behind : {X : Type 0} (xs : List X) → xs ++ [] ≡ xs
nothing_behind [] = refl
nothing_behind (x ∷ xs) = ap (λ l. x ∷ l) (nothing_behind xs)

pub shape_one : (code : List Instr) (places : Places) (x : List Instr) (i : Instr) (m : List Mark) → shape_of code places x ≡ []
    → marks_of code places i ≡ m → shape_of code places (x ++ i ∷ []) ≡ m
shape_one code places x i m g h =
    shape_append code places x (i ∷ [])
    ∙ (ap (λ l. l ++ shape_of code places (i ∷ [])) g ∙ (nothing_behind (marks_of code places i) ∙ h))

-- CLASSES of ids.
pub classes_append : (code : List Instr) (xs ys : List Slot) → HaveClasses code xs → HaveClasses code ys → HaveClasses code (xs ++ ys)
classes_append code [] ys a b = b
classes_append code (x ∷ xs) ys a b = (a.0, classes_append code xs ys a.1 b)

class_place : (code : List Instr) (xs : List Slot) (p : ℕ) (ys : List Slot) → HaveClasses code xs → HaveClasses code ys
    → HaveClasses code (with_item (at_place xs p) ys)
class_place code [] p ys a b = b
class_place code (x ∷ xs) zero ys a b = (a.0, b)
class_place code (x ∷ xs) (suc p) ys a b = class_place code xs p ys a.1 b

pub classes_picked : (code : List Instr) (ps : List ℕ) (xs : List Slot) → HaveClasses code xs → HaveClasses code (picked ps xs)
classes_picked code [] xs a = tt
classes_picked code (p ∷ ps) xs a = class_place code xs p (picked ps xs) a (classes_picked code ps xs a)

-- THE INSTRUCTION of an id.
split : (xs ys : List ℕ) (x : ℕ) → IsTrue (are_distinct (xs ++ ys)) → In xs x → In ys x → ⊥
split [] ys x d i j = i
split (y ∷ xs) ys x d (inl e) j =
    true_not (contains (xs ++ ys) y) (and_left (not (contains (xs ++ ys) y)) (are_distinct (xs ++ ys)) d)
    (in_contains (xs ++ ys) y (in_back xs ys y (subst (In ys) (sym e) j)))
split (y ∷ xs) ys x d (inr i) j = split xs ys x (and_right (not (contains (xs ++ ys) y)) (are_distinct (xs ++ ys)) d) i j

distinct_back : (xs ys : List ℕ) → IsTrue (are_distinct (xs ++ ys)) → IsTrue (are_distinct ys)
distinct_back [] ys d = d
distinct_back (y ∷ xs) ys d = distinct_back xs ys (and_right (not (contains (xs ++ ys) y)) (are_distinct (xs ++ ys)) d)

pub single_distinct : (bound : ℕ) (code : List Instr) → IsTrue (has_single_definitions bound code) → IsTrue (are_distinct (results code))
single_distinct bound code h =
    let ids = are_distinct (results code) && list_all (is_id bound) (results code) in
    let follows = uses_follow [] code && names_are_among (results code) code in
    and_left (are_distinct (results code)) (list_all (is_id bound) (results code)) (and_left ids follows h)

none_there : {X : Type 0} (at : ℕ) (i : X) → slice_get [] at ≡ Some i → ⊥
none_there at i e = absurd (cc e)

there : (code : List Instr) (at : ℕ) (i : Instr) (r : ℕ) → slice_get code at ≡ Some i → In (ids_of i).results r → In (results code) r
there [] at i r e h = absurd (none_there at i e)
there (j ∷ js) zero i r e h =
    in_front (ids_of j).results (results js) r (subst (λ (k : Instr). In (ids_of k).results r) (sym (same_Some j i e)) h)
there (j ∷ js) (suc q) i r e h = in_back (ids_of j).results (results js) r (there js q i r e h)

at_first : (b : Bool) (j : Instr) (o : Option Instr) → b ≡ true → cond b (Some j) o ≡ Some j
at_first b j o e = rw e refl

past_first : (b : Bool) (j i : Instr) (o : Option Instr) → (b ≡ true → ⊥) → o ≡ Some i → cond b (Some j) o ≡ Some i
past_first true j i o n e = absurd (n refl)
past_first false j i o n e = e

pub defined_there : (code : List Instr) (at : ℕ) (i : Instr) (r : ℕ) → IsTrue (are_distinct (results code)) → slice_get code at ≡ Some i
    → In (ids_of i).results r
    → definition code r ≡ Some i
defined_there [] at i r d e h = absurd (none_there at i e)
defined_there (j ∷ js) zero i r d e h =
    let own : In (ids_of j).results r = subst (λ (k : Instr). In (ids_of k).results r) (sym (same_Some j i e)) h in
    at_first (contains (ids_of j).results r) j (definition js r) (in_contains (ids_of j).results r own) ∙ e
defined_there (j ∷ js) (suc q) i r d e h =
    past_first (contains (ids_of j).results r) j i (definition js r)
    (λ c. split (ids_of j).results (results js) r d (contains_in (ids_of j).results r c) (there js q i r e h))
    (defined_there js q i r (distinct_back (ids_of j).results (results js) d) e h)

-- THE TYPE of a value.
typed_type : (d : Defined) (os : List ℕ) (r t : ℕ) → typed_by d os ≡ typed r t ∷ [] → type_in d os ≡ Some t
typed_type AValue (y ∷ x ∷ os) r t e = let q : typed x y ≡ typed r t = cc e in ap (λ (k : Typed). Some k.type') q
typed_type AValue (y ∷ []) r t e = absurd (cc e)
typed_type AValue [] r t e = absurd (cc e)
typed_type Nothing os r t e = absurd (cc e)
typed_type AnImport os r t e = absurd (cc e)
typed_type AType os r t e = absurd (cc e)
typed_type ATypeOnce os r t e = absurd (cc e)
typed_type AConstant os r t e = absurd (cc e)
typed_type AFunction os r t e = absurd (cc e)
typed_type ALabel os r t e = absurd (cc e)

pub value_sort : (z : Site) (places : Places) (i : Instr) (r t : ℕ) → IsLinked z places → StandsIn z (i ∷ []) → In (ids_of i).results r
    → typed_result i ≡ typed r t ∷ [] → sort_of_value z.machine.code r ≡ sort_of z.machine.code t
value_sort z places i r t linked here own e =
    let code = z.machine.code in
    let d : definition code r ≡ Some i = defined_there code here.0 i r linked.distinct here.1.0 own in
    let y : type_of code r ≡ Some t = ap type_of_instr d ∙ typed_type (defines i) i.operands r t e in
    ap (sort_of_type code) y

pub value_class : (z : Site) (places : Places) (i : Instr) (r t : ℕ) (type : TypeSymbol) → IsLinked z places → Has z.names (AsType type) t
    → sort_of_value z.machine.code r ≡ sort_of z.machine.code t → HasClass z.machine.code type r
value_class z places i r t (symbol.WordPointer class) linked has e =
    subst (λ s. IsPointer s class) (sym e) (linked.types class t has)
value_class z places i r t type linked has e = tt

pub symbol_class : (z : Site) (places : Places) (s : Symbol) (r : ℕ) (type : TypeSymbol) → IsLinked z places → Has z.names s r
    → type_of_symbol z.frame.context s ≡ Some type → HasClass z.machine.code type r
symbol_class z places s r (symbol.WordPointer class) linked has e = linked.variables s class r has e
symbol_class z places s r type linked has e = tt

-- EVENTS, and what is none.
pub own_quiet : (item : Room → Item) (s : Sort) (class : ℕ) (o : Option Room) → IsPointer s class → has_events class ≡ false → marks_by item s o ≡ []
own_quiet item s class o p e = rw p.pointer (rw e refl)

pub event_seen : (item : Room → Item) (s : Sort) (class : ℕ) (o : Option Room) (room : Room) → IsPointer s class → IsTrue (has_events class)
    → o ≡ Some room → marks_by item s o ≡ Seen (item room) ∷ []
event_seen item s class o room p e f = rw p.pointer (rw (e, f) refl)

pub load_quiet : (z : Site) (places : Places) (t r p class : ℕ) → IsPointer (sort_of_value z.machine.code p) class → has_events class ≡ false
    → marks_of z.machine.code places (instr 61 (t ∷ r ∷ p ∷ [])) ≡ []
load_quiet z places t r p class k e =
    own_quiet Loads (sort_of_value z.machine.code p) class (pointer_room z.machine.code places p) k e

pub store_quiet : (z : Site) (places : Places) (p x class : ℕ) → IsPointer (sort_of_value z.machine.code p) class → has_events class ≡ false
    → marks_of z.machine.code places (instr 62 (p ∷ x ∷ [])) ≡ []
store_quiet z places p x class k e =
    own_quiet Stores (sort_of_value z.machine.code p) class (pointer_room z.machine.code places p) k e

pub load_seen : (z : Site) (places : Places) (t r p class : ℕ) (room : Room) → IsPointer (sort_of_value z.machine.code p) class
    → IsTrue (has_events class) → pointer_room z.machine.code places p ≡ Some room
    → marks_of z.machine.code places (instr 61 (t ∷ r ∷ p ∷ [])) ≡ Seen (Loads room) ∷ []
load_seen z places t r p class room k e f =
    event_seen Loads (sort_of_value z.machine.code p) class (pointer_room z.machine.code places p) room k e f

pub store_seen : (z : Site) (places : Places) (p x class : ℕ) (room : Room) → IsPointer (sort_of_value z.machine.code p) class
    → IsTrue (has_events class) → pointer_room z.machine.code places p ≡ Some room
    → marks_of z.machine.code places (instr 62 (p ∷ x ∷ [])) ≡ Seen (Stores room) ∷ []
store_seen z places p x class room k e f =
    event_seen Stores (sort_of_value z.machine.code p) class (pointer_room z.machine.code places p) room k e f

-- THE ROOM of a chain from the variable of a room.
stays : (code : List Instr) (n x : ℕ) → base_in (definition code x) x ≡ x → base_back code n x ≡ x
stays code zero x e = refl
stays code (suc n) x e = ap (base_back code n) e ∙ stays code n x e

one_more : (code : List Instr) (at : ℕ) (i : Instr) → slice_get code at ≡ Some i → (n : ℕ) × (length code ≡ suc n)
one_more [] at i e = absurd (none_there at i e)
one_more (j ∷ js) at i e = (length js, refl)

pub chain_room : (z : Site) (places : Places) (room : Room) (t r p : ℕ) (is : List ℕ) → IsLinked z places → Has z.names (Memory room) p
    → StandsIn z (instr 65 (t ∷ r ∷ p ∷ is) ∷ []) → In (ids_of (instr 65 (t ∷ r ∷ p ∷ is))).results r
    → pointer_room z.machine.code places r ≡ Some room
chain_room z places room t r p is linked has here own =
    let code = z.machine.code in
    let i = instr 65 (t ∷ r ∷ p ∷ is) in
    let d : definition code r ≡ Some i = defined_there code here.0 i r linked.distinct here.1.0 own in
    let b = linked.rooms room p has in
    let n = one_more code here.0 i here.1.0 in
    let base : base_in (definition code p) p ≡ p = ap (λ o. base_in o p) b.variable in
    let step : base_in (definition code r) r ≡ p = ap (λ o. base_in o r) d in
    let back : base_back code (length code) r ≡ p =
    ap (λ k. base_back code k r) n.1 ∙ (ap (base_back code n.0) step ∙ stays code n.0 p base) in
    ap (λ x. room_in code places (definition code x)) back ∙ (ap (room_in code places) b.variable ∙ b.found)
