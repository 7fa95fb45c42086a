-- The table of what is declared, against the list of declarations.
use Rattle.std.proofs.Common.{◌≡◌, ℕ, ◌<◌, ◌≢◌, List, [], ◌∷◌, ◌++◌, length, Bool, true, false, not, ◌&&◌, ◌||◌, if◌then◌else◌, Option, None, refl, sym, ap, ◌∙◌, arith}
use Rattle.std.specs.Prelude.{nat_eq, nat_lt, replicate}
use Rattle.std.specs.List.{list_any, list_all}
use Rattle.std.proofs.lemmas.Bool.Decides.{nat_tests}
use Rattle.std.proofs.lemmas.Grind.{get_or-set_at}
use Rattle.std.proofs.lemmas.List.{get_or-replicate, length-replicate, get_or-set_other, length-set, get_or_past}
use Rattle.std.proofs.lemmas.List.Folds.{list_any-append, list_all-append}
use Rattle.tpf_decode.specs.declared.argument.Kind.{Kind}
use Rattle.tpf_decode.specs.declared.argument.Kind.TheVariants as kind
use Rattle.tpf_program.specs.declared.declaration.Declaration.{Declaration}
use Rattle.tpf_program.specs.declared.declaration.Declaration.TheVariants.{Flags, Constants, Resource, Uav, Shared, Input, Temps, Indexable, Group, ImmediateConstants}
use Rattle.tpf_program.specs.declared.declaration.Declared.{Declared}
use Rattle.tpf_program.specs.declared.declaration.ViewKind.TheVariants as view
use Rattle.tpf_program.specs.declared.declaration.SharedKind.TheVariants as shared
use Rattle.tpf_program.specs.Declarations.{same_thing, same_id, is_within}
use Rattle.tpf_program.specs.Ends.{has}
use Rattle.tpf_program.specs.Sizes.{Addressing, Bytes, Structures, addressing_declared, temps_of, temps_declared}
use Rattle.tpf_decode.specs.declared.meaning.Meaning.{Meaning}
use Rattle.tpf_decode.specs.declared.meaning.Meaning.TheVariants.{LoadRaw}
use Rattle.tpf_program.specs.Uses.{Use, declares, differs, is_bytes, is_structures, is_declared, is_missing, is_past, is_other_view, is_thing, is_temp_of}
use Rattle.shader_check.specs.declared.things.Entry.{Entry}
use Rattle.shader_check.specs.declared.things.Things.{Things}
use Rattle.shader_check.specs.Things.{number_of_id, number_of, number_named, way_of, nothing, entry_with, looked_up, with_thing, is_absent, is_behind, is_other}

-- A THING AND ITS NUMBER: two declarations of one thing have one number, as has what names it.
abbrev pub SameNumber : Declaration → Declaration → Type 0
SameNumber e what = same_thing e what ≡ (nat_lt (number_of what) 4374 && nat_eq (number_of e) (number_of what))

no_id : (n : ℕ) → false ≡ (nat_lt n 4374 && nat_eq 4374 n)
no_id n = grind (arith, nat_tests)

same_id_number : (a b : Kind) → same_id a b ≡ (nat_lt (number_of_id b) 4374 && nat_eq (number_of_id a) (number_of_id b))
same_id_number kind.ThreadId kind.ThreadId = refl
same_id_number kind.GroupId kind.GroupId = refl
same_id_number kind.IdInGroup kind.IdInGroup = refl
same_id_number kind.FlatId kind.FlatId = refl
same_id_number kind.ThreadId b = refl
same_id_number kind.GroupId b = refl
same_id_number kind.IdInGroup b = refl
same_id_number kind.FlatId b = refl
same_id_number a b = no_id (number_of_id b)

pub same_number : (e what : Declaration) → is_within e ≡ true → SameNumber e what
same_number (Input a s) (Input b t) h = same_id_number a b
same_number (Input kind.ThreadId s) what h = grind (arith, nat_tests)
same_number (Input kind.GroupId s) what h = grind (arith, nat_tests)
same_number (Input kind.IdInGroup s) what h = grind (arith, nat_tests)
same_number (Input kind.FlatId s) what h = grind (arith, nat_tests)
same_number e what h = grind (arith, nat_tests, h)

same_named_id : (a b : Kind) (slot : ℕ) → same_id a b ≡ (nat_lt (number_named b slot) 4374 && nat_eq (number_of_id a) (number_named b slot))
same_named_id kind.ThreadId kind.ThreadId slot = refl
same_named_id kind.GroupId kind.GroupId slot = refl
same_named_id kind.IdInGroup kind.IdInGroup slot = refl
same_named_id kind.FlatId kind.FlatId slot = refl
same_named_id kind.ThreadId b slot = grind (arith, nat_tests)
same_named_id kind.GroupId b slot = grind (arith, nat_tests)
same_named_id kind.IdInGroup b slot = grind (arith, nat_tests)
same_named_id kind.FlatId b slot = grind (arith, nat_tests)
same_named_id a b slot = no_id (number_named b slot)

-- what an operand names, by its number
abbrev pub NamesNumber : Declaration → Kind → ℕ → Type 0
NamesNumber e k slot = declares e k slot ≡ (nat_lt (number_named k slot) 4374 && nat_eq (number_of e) (number_named k slot))

pub names_number : (e : Declaration) (k : Kind) (slot : ℕ) → is_within e ≡ true → NamesNumber e k slot
names_number (Input a s) b slot h = same_named_id a b slot
names_number (Resource s v) kind.Temp slot h = grind (arith, nat_tests, h)
names_number (Uav s v c o) kind.Temp slot h = grind (arith, nat_tests, h)
names_number (Shared s v) kind.Temp slot h = grind (arith, nat_tests, h)
names_number (Constants s v) kind.Temp slot h = grind (arith, nat_tests, h)
names_number (Indexable s v c) kind.Temp slot h = grind (arith, nat_tests, h)
names_number (Temps n) kind.Temp slot h = grind (arith, nat_tests, h)
names_number (Flags n) kind.Temp slot h = grind (arith, nat_tests, h)
names_number (Group x y z) kind.Temp slot h = grind (arith, nat_tests, h)
names_number (ImmediateConstants n) kind.Temp slot h = grind (arith, nat_tests, h)
names_number e k slot h = grind (arith, nat_tests, h)

-- how a view is reached that an operand names
either_way : {X : Type 0} (b : Bool) (x : X) → x ≡ (if b then x else x)
either_way true x = refl
either_way false x = refl

pub way_named : (e : Declaration) (k : Kind) (slot : ℕ) → addressing_declared [] k slot e ≡ (if declares e k slot then way_of e else None)
way_named (Resource s v) kind.Resource slot = refl
way_named (Uav s v c o) kind.Uav slot = refl
way_named (Shared s v) kind.Shared slot = refl
way_named (Input a s) kind.Resource slot = either_way (same_id a kind.Resource) None
way_named (Input a s) kind.Uav slot = either_way (same_id a kind.Uav) None
way_named (Input a s) kind.Shared slot = either_way (same_id a kind.Shared) None
way_named (Input a s) k slot = either_way (same_id a k) None
way_named (Constants s n) kind.Constant slot = either_way (nat_eq s slot) None
way_named (Indexable s n c) kind.Indexable slot = either_way (nat_eq s slot) None
way_named (Constants s n) k slot = refl
way_named (Indexable s n c) k slot = refl
way_named (Resource s v) k slot = refl
way_named (Uav s v c o) k slot = refl
way_named (Shared s v) k slot = refl
way_named e kind.Temp slot = refl
way_named e k slot = refl

-- WHAT A TABLE SAYS of a list of declarations that are within their limits
abbrev pub entry_of : List Declared → ℕ → Entry
entry_of ds n = record {
  declared = list_any (λ d. nat_eq (number_of d.what) n) ds;
  bytes = list_any (λ d. nat_eq (number_of d.what) n && has is_bytes (way_of d.what)) ds;
  structures = list_any (λ d. nat_eq (number_of d.what) n && has is_structures (way_of d.what)) ds;
}

pub record Lists (ds : List Declared) (t : Things) : Type 0 where
  pub entries : (n : ℕ) → n < 4374 → looked_up t n ≡ entry_of ds n
  pub size : length t.entries ≡ 4374
  pub temps : t.temps ≡ temps_of ds
  pub within : list_all (λ d. is_within d.what) ds ≡ true

pub lists_none : Lists [] (record { entries = replicate 4374 nothing; temps = 0 })
lists_none = record {
  entries = λ n h. get_or-replicate 4374 n nothing nothing h;
  size = length-replicate 4374 nothing;
  temps = refl;
  within = refl;
}

-- the entries of one more declaration
abbrev an_entry : Bool → Bool → Bool → Entry
an_entry a b c = record { declared = a; bytes = b; structures = c }

same_entry : (a b c x y z : Bool) → a ≡ x → b ≡ y → c ≡ z → an_entry a b c ≡ an_entry x y z
same_entry a b c x y z p q r = ap (λ t. an_entry t b c) p ∙ (ap (λ t. an_entry x t c) q ∙ ap (λ t. an_entry x y t) r)

or_one : (a : Bool) → (a || true) ≡ true
or_one true = refl
or_one false = refl

or_last : (a b : Bool) → (a || (b || false)) ≡ (a || b)
or_last true b = refl
or_last false true = refl
or_last false false = refl

or_none : (a : Bool) → (a || false) ≡ a
or_none true = refl
or_none false = refl

module _ (ds : List Declared) (d : Declared) (n : ℕ) where
  abbrev is_it : Declared → Bool
  is_it e = nat_eq (number_of e.what) n

  abbrev by_bytes : Declared → Bool
  by_bytes e = has is_bytes (way_of e.what)

  abbrev by_structures : Declared → Bool
  by_structures e = has is_structures (way_of e.what)

  entry_same : is_it d ≡ true → entry_of (ds ++ d ∷ []) n ≡ entry_with (entry_of ds n) d.what
  entry_same h = same_entry _ _ _ _ _ _
      (list_any-append is_it ds (d ∷ []) ∙ (ap (λ t. list_any is_it ds || (t || false)) h ∙ or_one (list_any is_it ds)))
      (list_any-append (λ e. is_it e && by_bytes e) ds (d ∷ [])
      ∙ (ap (λ t. list_any (λ e. is_it e && by_bytes e) ds || ((t && by_bytes d) || false)) h ∙ or_last (list_any (λ e. is_it e && by_bytes e) ds) (by_bytes d)))
      (list_any-append (λ e. is_it e && by_structures e) ds (d ∷ [])
      ∙ (ap (λ t. list_any (λ e. is_it e && by_structures e) ds || ((t && by_structures d) || false)) h ∙ or_last (list_any (λ e. is_it e && by_structures e) ds) (by_structures d)))

  entry_other : is_it d ≡ false → entry_of (ds ++ d ∷ []) n ≡ entry_of ds n
  entry_other h = same_entry _ _ _ _ _ _
      (list_any-append is_it ds (d ∷ []) ∙ (ap (λ t. list_any is_it ds || (t || false)) h ∙ or_none (list_any is_it ds)))
      (list_any-append (λ e. is_it e && by_bytes e) ds (d ∷ [])
      ∙ (ap (λ t. list_any (λ e. is_it e && by_bytes e) ds || ((t && by_bytes d) || false)) h ∙ or_none (list_any (λ e. is_it e && by_bytes e) ds)))
      (list_any-append (λ e. is_it e && by_structures e) ds (d ∷ [])
      ∙ (ap (λ t. list_any (λ e. is_it e && by_structures e) ds || ((t && by_structures d) || false)) h ∙ or_none (list_any (λ e. is_it e && by_structures e) ds)))

temps_more : (ds : List Declared) (d : Declared) → temps_of (ds ++ d ∷ []) ≡ (if nat_eq (temps_of ds) 0 then temps_declared d.what else temps_of ds)
temps_more [] d = by_test (nat_eq (temps_declared d.what) 0) refl
  where
    by_test : (b : Bool) → nat_eq (temps_declared d.what) 0 ≡ b → (if b then 0 else temps_declared d.what) ≡ temps_declared d.what
    by_test true e = grind (arith, nat_tests, e)
    by_test false e = refl
temps_more (e ∷ ds) d = by_test (nat_eq (temps_declared e.what) 0) refl (temps_more ds d)
  where
    by_test : (b : Bool) → nat_eq (temps_declared e.what) 0 ≡ b → temps_of (ds ++ d ∷ []) ≡ (if nat_eq (temps_of ds) 0 then temps_declared d.what else temps_of ds)
        → (if b then temps_of (ds ++ d ∷ []) else temps_declared e.what)
        ≡ (if nat_eq (if b then temps_of ds else temps_declared e.what) 0 then temps_declared d.what else (if b then temps_of ds else temps_declared e.what))
    by_test true h k = k
    by_test false h k = sym (ap (λ t. if t then temps_declared d.what else temps_declared e.what) h)

module _ (ds : List Declared) (t : Things) (h : Lists ds t) (d : Declared) (within : is_within d.what ≡ true) where
  entries_more : (n : ℕ) → n < 4374 → looked_up (with_thing t d.what) n ≡ entry_of (ds ++ d ∷ []) n
  entries_more n l = by_test (nat_eq (number_of d.what) n) refl
    where
      by_test : (b : Bool) → nat_eq (number_of d.what) n ≡ b → looked_up (with_thing t d.what) n ≡ entry_of (ds ++ d ∷ []) n
      by_test true e =
          let k : number_of d.what ≡ n = grind (arith, nat_tests, e) in
          get_or-set_at t.entries (number_of d.what) n (entry_with (looked_up t (number_of d.what)) d.what) nothing (sym k) (omega (arith, k, l, h.size))
          ∙ (ap (λ x. entry_with x d.what) (ap (looked_up t) k ∙ h.entries n l) ∙ sym (entry_same ds d n e))
      by_test false e =
          let k : n ≢ number_of d.what = grind (arith, nat_tests, e) in
          get_or-set_other t.entries (number_of d.what) n (entry_with (looked_up t (number_of d.what)) d.what) nothing k
          ∙ (h.entries n l ∙ sym (entry_other ds d n e))

  pub lists_more : Lists (ds ++ d ∷ []) (with_thing t d.what)
  lists_more = record {
    entries = entries_more;
    size = length-set t.entries (number_of d.what) (entry_with (looked_up t (number_of d.what)) d.what) ∙ h.size;
    temps = ap (λ n. if nat_eq n 0 then temps_declared d.what else n) h.temps ∙ sym (temps_more ds d);
    within = list_all-append (λ e. is_within e.what) ds (d ∷ []) ∙ rw (h.within, within) refl;
  }

-- A TEST of all declarations within their limits
any_same : (p q : Declared → Bool) → ((d : Declared) → is_within d.what ≡ true → p d ≡ q d) → (ds : List Declared) → list_all (λ d. is_within d.what) ds ≡ true → list_any p ds ≡ list_any q ds
any_same p q f [] h = refl
any_same p q f (d ∷ ds) h = by_test (is_within d.what) refl h (any_same p q f ds)
  where
    by_test : (b : Bool) → is_within d.what ≡ b → (b && list_all (λ d. is_within d.what) ds) ≡ true → (list_all (λ d. is_within d.what) ds ≡ true → list_any p ds ≡ list_any q ds)
        → (p d || list_any p ds) ≡ (q d || list_any q ds)
    by_test true e k next = ap (λ t. t || list_any p ds) (f d e) ∙ ap (λ t. q d || t) (next k)
    by_test false e k next = absurd (cc)

any_and : (b : Bool) (p : Declared → Bool) (ds : List Declared) → list_any (λ d. b && p d) ds ≡ (b && list_any p ds)
any_and true p ds = refl
any_and false p [] = refl
any_and false p (d ∷ ds) = any_and false p ds

module _ (ds : List Declared) (t : Things) (h : Lists ds t) where
  found : (n : ℕ) → (nat_lt n 4374 && list_any (λ d. nat_eq (number_of d.what) n) ds) ≡ (looked_up t n).declared
  found n = by_test (nat_lt n 4374) refl
    where
      by_test : (b : Bool) → nat_lt n 4374 ≡ b → (b && list_any (λ d. nat_eq (number_of d.what) n) ds) ≡ (looked_up t n).declared
      by_test true e = sym (ap (λ x. x.declared) (h.entries n (grind (arith, nat_tests, e))))
      by_test false e = sym (ap (λ x. x.declared) (get_or_past t.entries n nothing (grind (arith, nat_tests, e, h.size))))

  pub again : (what : Declaration) → (looked_up t (number_of what)).declared ≡ list_any (λ e. same_thing e.what what) ds
  again what =
      sym (any_same (λ e. same_thing e.what what) (λ e. nat_lt (number_of what) 4374 && nat_eq (number_of e.what) (number_of what)) (λ e k. same_number e.what what k) ds h.within
      ∙ (any_and (nat_lt (number_of what) 4374) (λ e. nat_eq (number_of e.what) (number_of what)) ds ∙ found (number_of what)))

  pub known : (u : Use) → (looked_up t (number_named u.kind u.slot)).declared ≡ is_declared ds u
  known u =
      let n = number_named u.kind u.slot in
      sym (any_same (λ e. declares e.what u.kind u.slot) (λ e. nat_lt n 4374 && nat_eq (number_of e.what) n) (λ e k. names_number e.what u.kind u.slot k) ds h.within
      ∙ (any_and (nat_lt n 4374) (λ e. nat_eq (number_of e.what) n) ds ∙ found n))

  pub absent : (u : Use) → is_absent t u ≡ is_missing ds u
  absent u = ap (λ b. is_thing u.kind && not b) (known u)

  pub behind : (u : Use) → is_behind t u ≡ is_past ds u
  behind u = ap (λ b. b && is_temp_of t.temps u.kind u.slot) (known u) ∙ ap (λ n. is_declared ds u && is_temp_of n u.kind u.slot) h.temps

-- VIEWS of another kind than an instruction reaches
by_stride : (meaning : Meaning) (stride : ℕ) → differs meaning (Structures stride) ≡ differs meaning (Structures 0)
by_stride LoadRaw stride = refl
by_stride meaning stride = refl

has_way : (meaning : Meaning) (what : Declaration)
    → has (differs meaning) (way_of what) ≡ ((has is_bytes (way_of what) && differs meaning Bytes) || (has is_structures (way_of what) && differs meaning (Structures 0)))
has_way meaning (Resource slot view.Raw) = sym (or_none (differs meaning Bytes))
has_way meaning (Resource slot (view.Structured stride)) = by_stride meaning stride
has_way meaning (Uav slot view.Raw c o) = sym (or_none (differs meaning Bytes))
has_way meaning (Uav slot (view.Structured stride) c o) = by_stride meaning stride
has_way meaning (Shared slot (shared.Raw bytes)) = sym (or_none (differs meaning Bytes))
has_way meaning (Shared slot (shared.Structured stride count)) = by_stride meaning stride
has_way meaning what = refl

if_has : (b : Bool) (test : Addressing → Bool) (x : Option Addressing) → has test (if b then x else None) ≡ (b && has test x)
if_has true test x = refl
if_has false test x = refl

either_all : (p x y : Declared → Bool) (l a b : Bool) (ds : List Declared)
    → list_any (λ d. (l && p d) && ((x d && a) || (y d && b))) ds
    ≡ (((l && list_any (λ d. p d && x d) ds) && a) || ((l && list_any (λ d. p d && y d) ds) && b))
either_all p x y false a b [] = refl
either_all p x y false a b (d ∷ ds) = either_all p x y false a b ds
either_all p x y true a b [] = refl
either_all p x y true a b (d ∷ ds) =
    ap (λ t. (p d && ((x d && a) || (y d && b))) || t) (either_all p x y true a b ds)
    ∙ shared_out (p d) (x d) (y d) a b (list_any (λ d. p d && x d) ds) (list_any (λ d. p d && y d) ds)
  where
    shared_out : (e x y a b u v : Bool) → ((e && ((x && a) || (y && b))) || ((u && a) || (v && b))) ≡ ((((e && x) || u) && a) || (((e && y) || v) && b))
    shared_out e x y a b u v = grind arith

module _ (ds : List Declared) (t : Things) (h : Lists ds t) where
  found_bytes : (n : ℕ) → (nat_lt n 4374 && list_any (λ d. nat_eq (number_of d.what) n && has is_bytes (way_of d.what)) ds) ≡ (looked_up t n).bytes
  found_bytes n = by_test (nat_lt n 4374) refl
    where
      by_test : (b : Bool) → nat_lt n 4374 ≡ b → (b && list_any (λ d. nat_eq (number_of d.what) n && has is_bytes (way_of d.what)) ds) ≡ (looked_up t n).bytes
      by_test true e = sym (ap (λ x. x.bytes) (h.entries n (grind (arith, nat_tests, e))))
      by_test false e = sym (ap (λ x. x.bytes) (get_or_past t.entries n nothing (grind (arith, nat_tests, e, h.size))))

  found_structures : (n : ℕ) → (nat_lt n 4374 && list_any (λ d. nat_eq (number_of d.what) n && has is_structures (way_of d.what)) ds) ≡ (looked_up t n).structures
  found_structures n = by_test (nat_lt n 4374) refl
    where
      by_test : (b : Bool) → nat_lt n 4374 ≡ b → (b && list_any (λ d. nat_eq (number_of d.what) n && has is_structures (way_of d.what)) ds) ≡ (looked_up t n).structures
      by_test true e = sym (ap (λ x. x.structures) (h.entries n (grind (arith, nat_tests, e))))
      by_test false e = sym (ap (λ x. x.structures) (get_or_past t.entries n nothing (grind (arith, nat_tests, e, h.size))))

  pub other : (meaning : Meaning) (u : Use) → is_other t meaning u ≡ is_other_view [] ds meaning u
  other meaning u =
      let n = number_named u.kind u.slot in
      let e : Declared → Bool = λ d. nat_eq (number_of d.what) n in
      let x : Declared → Bool = λ d. has is_bytes (way_of d.what) in
      let y : Declared → Bool = λ d. has is_structures (way_of d.what) in
      let a = differs meaning Bytes in
      let b = differs meaning (Structures 0) in
      sym (any_same (λ d. has (differs meaning) (addressing_declared [] u.kind u.slot d.what)) (λ d. (nat_lt n 4374 && e d) && ((x d && a) || (y d && b)))
      (λ d k. ap (has (differs meaning)) (way_named d.what u.kind u.slot)
      ∙ (if_has (declares d.what u.kind u.slot) (differs meaning) (way_of d.what)
      ∙ (ap (λ t. t && has (differs meaning) (way_of d.what)) (names_number d.what u.kind u.slot k)
      ∙ ap (λ t. (nat_lt n 4374 && e d) && t) (has_way meaning d.what)))) ds h.within
      ∙ (either_all e x y (nat_lt n 4374) a b ds
      ∙ (ap (λ z. (z && a) || ((nat_lt n 4374 && list_any (λ d. e d && y d) ds) && b)) (found_bytes n)
      ∙ ap (λ z. ((looked_up t n).bytes && a) || (z && b)) (found_structures n))))
