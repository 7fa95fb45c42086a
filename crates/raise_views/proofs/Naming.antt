-- What the statements of guarded instructions hold and name.
use Rattle.std.proofs.Common.{◌≡◌, ℕ, ◌<◌, Bool, true, false, List, [], ◌∷◌, ◌++◌, map, Option, Some, None, refl, sym, ap, subst, ◌∙◌}
use Rattle.std.specs.Prelude.{nat_eq, nat_lt, if◌then◌else◌, not, ◌&&◌, IsTrue}
use Rattle.std.proofs.lemmas.Bool.{and_from, and_parts, false≢true}
use Rattle.word_base.specs.declared.arithmetic.Binary.TheVariants as two
use Rattle.word_base.specs.declared.event.Act.{Act}
use Rattle.word_base.specs.declared.event.Classes.{Classes}
use Rattle.word_base.specs.declared.event.Room.{Room}
use Rattle.word_base.specs.declared.event.Room.TheVariants as room
use Rattle.word_base.specs.declared.event.Scope.{Scope}
use Rattle.tpf_decode.specs.declared.argument.Kind.{Kind}
use Rattle.tpf_program.specs.Program.{Shader}
use Rattle.shader_tree.specs.declared.node.Space.{Space}
use Rattle.shader_tree.specs.Shape.{Item, Loads, Stores, Changes, shape}
use Rattle.shader_tree.specs.Terms.{Term}
use Rattle.shader_tree.specs.Terms as term
use Rattle.shader_tree.specs.Values.{size_of}
use Rattle.shader_tree.specs.Walks.{Each, holds_no, is_event, is_flow, changed_in, rooms_in, spaces_in, threads_in, written_in}
use Rattle.raise_operands.specs.Folding.{literal, added_by}
use Rattle.raise_operands.specs.Raises.{HasThread, IsPlain, is_register}
use Rattle.raise_operands.specs.Raising.{chained, chained_from, followed, is_nothing}
use Rattle.raise_operands.specs.Vectors.{spaces_of}
use Rattle.raise_views.specs.declared.address.Reach.{Reach}
use Rattle.raise_views.specs.declared.address.Way.{Way}
use Rattle.raise_views.specs.declared.address.Way.TheVariants as way
use Rattle.raise_views.specs.Guards.{has_room, is_resource}
use Rattle.raise_views.specs.Reaching.{At, answer_scratch, answered, atomic_part, change, guarded, index_of, index_test, is_known, keep, keep_by, keeps, known_or, load_of, load_part, loads, place, place_by, quarter, quarter_by, stand_together, store_of, store_part, stores, structure_by, structure_test, structures, sum_by, test, test_by, together, word_of, words_of, word_scratch, structure_scratch, zero_of}

nil2 : {X : Type 0} (xs ys : List X) → xs ≡ [] → ys ≡ [] → xs ++ ys ≡ []
nil2 xs ys h k = ap (λ zs. zs ++ ys) h ∙ k

-- A TERM WITHOUT EVENTS changes no room, and a statement without events and control flow has an empty shape.
pub quiet_changed : (x : Term) → holds_no is_event x ≡ true → changed_in x ≡ []
quiet_changed (term.Read space a) h = quiet_changed a h
quiet_changed (term.One op a) h = quiet_changed a h
quiet_changed (term.Quotient a by) h = quiet_changed a h
quiet_changed (term.Product a by) h = quiet_changed a h
quiet_changed (term.Set n a) h = quiet_changed a h
quiet_changed (term.Loop a) h = quiet_changed a h
quiet_changed (term.Case v a) h = quiet_changed a h
quiet_changed (term.Default a) h = quiet_changed a h
quiet_changed (term.Two op a b) h =
    let q = and_parts (holds_no is_event a) (holds_no is_event b) h in nil2 (changed_in a) (changed_in b) (quiet_changed a q.0) (quiet_changed b q.1)
quiet_changed (term.First op a b) h =
    let q = and_parts (holds_no is_event a) (holds_no is_event b) h in nil2 (changed_in a) (changed_in b) (quiet_changed a q.0) (quiet_changed b q.1)
quiet_changed (term.Second op a b) h =
    let q = and_parts (holds_no is_event a) (holds_no is_event b) h in nil2 (changed_in a) (changed_in b) (quiet_changed a q.0) (quiet_changed b q.1)
quiet_changed (term.Compare how a b) h =
    let q = and_parts (holds_no is_event a) (holds_no is_event b) h in nil2 (changed_in a) (changed_in b) (quiet_changed a q.0) (quiet_changed b q.1)
quiet_changed (term.Both a b) h =
    let q = and_parts (holds_no is_event a) (holds_no is_event b) h in nil2 (changed_in a) (changed_in b) (quiet_changed a q.0) (quiet_changed b q.1)
quiet_changed (term.Write space a b) h =
    let q = and_parts (holds_no is_event a) (holds_no is_event b) h in nil2 (changed_in a) (changed_in b) (quiet_changed a q.0) (quiet_changed b q.1)
quiet_changed (term.Guard a b) h =
    let q = and_parts (holds_no is_event a) (holds_no is_event b) h in nil2 (changed_in a) (changed_in b) (quiet_changed a q.0) (quiet_changed b q.1)
quiet_changed (term.Switch a b) h =
    let q = and_parts (holds_no is_event a) (holds_no is_event b) h in nil2 (changed_in a) (changed_in b) (quiet_changed a q.0) (quiet_changed b q.1)
quiet_changed (term.Then a b) h =
    let q = and_parts (holds_no is_event a) (holds_no is_event b) h in nil2 (changed_in a) (changed_in b) (quiet_changed a q.0) (quiet_changed b q.1)
quiet_changed (term.Three op a b c) h =
    let q = and_parts (holds_no is_event a) (holds_no is_event b && holds_no is_event c) h in
    let r = and_parts (holds_no is_event b) (holds_no is_event c) q.1 in
    nil2 (changed_in a) (changed_in b ++ changed_in c) (quiet_changed a q.0) (nil2 (changed_in b) (changed_in c) (quiet_changed b r.0)
    (quiet_changed c r.1))
quiet_changed (term.Pick a b c) h =
    let q = and_parts (holds_no is_event a) (holds_no is_event b && holds_no is_event c) h in
    let r = and_parts (holds_no is_event b) (holds_no is_event c) q.1 in
    nil2 (changed_in a) (changed_in b ++ changed_in c) (quiet_changed a q.0) (nil2 (changed_in b) (changed_in c) (quiet_changed b r.0)
    (quiet_changed c r.1))
quiet_changed (term.If a b c) h =
    let q = and_parts (holds_no is_event a) (holds_no is_event b && holds_no is_event c) h in
    let r = and_parts (holds_no is_event b) (holds_no is_event c) q.1 in
    nil2 (changed_in a) (changed_in b ++ changed_in c) (quiet_changed a q.0) (nil2 (changed_in b) (changed_in c) (quiet_changed b r.0)
    (quiet_changed c r.1))
quiet_changed (term.Insert a b c d) h =
    let q = and_parts (holds_no is_event a) (holds_no is_event b && (holds_no is_event c && holds_no is_event d)) h in
    let r = and_parts (holds_no is_event b) (holds_no is_event c && holds_no is_event d) q.1 in
    let u = and_parts (holds_no is_event c) (holds_no is_event d) r.1 in
    nil2 (changed_in a) (changed_in b ++ (changed_in c ++ changed_in d)) (quiet_changed a q.0) (nil2 (changed_in b) (changed_in c ++ changed_in d)
    (quiet_changed b r.0) (nil2 (changed_in c) (changed_in d) (quiet_changed c u.0) (quiet_changed d u.1)))
quiet_changed (term.Load n room a) h = absurd (false≢true h)
quiet_changed (term.Store room a b) h = absurd (false≢true h)
quiet_changed (term.Atomic n room a kind b c) h = absurd (false≢true h)
quiet_changed other h = refl

pub quiet_shape : (x : Term) → holds_no is_event x ≡ true → holds_no is_flow x ≡ true → shape x ≡ []
quiet_shape (term.Load n room at) h k = absurd (false≢true h)
quiet_shape (term.Store room at v) h k = absurd (false≢true h)
quiet_shape (term.Atomic n room at kind a b) h k = absurd (false≢true h)
quiet_shape (term.Sync threads scope classes) h k = absurd (false≢true h)
quiet_shape (term.Guard b body) h k =
    let q = and_parts (holds_no is_event b) (holds_no is_event body) h in
    let r = and_parts (holds_no is_flow b) (holds_no is_flow body) k in
    quiet_shape body q.1 r.1
quiet_shape (term.If b a c) h k =
    let q = and_parts (holds_no is_event b) (holds_no is_event a && holds_no is_event c) h in
    let r = and_parts (holds_no is_flow b) (holds_no is_flow a && holds_no is_flow c) k in
    let u = and_parts (holds_no is_event a) (holds_no is_event c) q.1 in
    let v = and_parts (holds_no is_flow a) (holds_no is_flow c) r.1 in
    nil2 (shape a) (shape c) (quiet_shape a u.0 v.0) (quiet_shape c u.1 v.1)
quiet_shape (term.Then a b) h k =
    let q = and_parts (holds_no is_event a) (holds_no is_event b) h in
    let r = and_parts (holds_no is_flow a) (holds_no is_flow b) k in
    nil2 (shape a) (shape b) (quiet_shape a q.0 r.0) (quiet_shape b q.1 r.1)
quiet_shape (term.Loop body) h k = absurd (false≢true k)
quiet_shape (term.Switch on cases) h k = absurd (false≢true k)
quiet_shape (term.Case v next) h k = absurd (false≢true k)
quiet_shape (term.Default next) h k = absurd (false≢true k)
quiet_shape other h k = refl

-- the shapes of statements one after the other
pub shapes : List Term → List Item
shapes [] = []
shapes (x ∷ xs) = shape x ++ shapes xs

pub append_nil : (xs : List Item) → xs ++ [] ≡ xs
append_nil [] = refl
append_nil (x ∷ xs) = ap (λ l. x ∷ l) (append_nil xs)

append_assoc : (xs ys zs : List Item) → (xs ++ ys) ++ zs ≡ xs ++ (ys ++ zs)
append_assoc [] ys zs = refl
append_assoc (x ∷ xs) ys zs = ap (λ l. x ∷ l) (append_assoc xs ys zs)

nothing_is : (a : Term) → is_nothing a ≡ true → a ≡ term.Nothing
nothing_is term.Nothing e = refl
nothing_is other e = absurd (false≢true e)

shape_followed : (a b : Term) → shape (followed a b) ≡ shape a ++ shape b
shape_followed a b = first (is_nothing a) refl
  where
    second : (q : Bool) → is_nothing b ≡ q → shape (if q then a else term.Then a b) ≡ shape a ++ shape b
    second true e = sym (ap (λ x. shape a ++ shape x) (nothing_is b e) ∙ append_nil (shape a))
    second false e = refl

    first : (q : Bool) → is_nothing a ≡ q → shape (if q then b else if is_nothing b then a else term.Then a b) ≡ shape a ++ shape b
    first true e = sym (ap (λ x. shape x ++ shape b) (nothing_is a e))
    first false e = second (is_nothing b) refl

shape_from : (xs : List Term) (a : Term) → shape (chained_from a xs) ≡ shape a ++ shapes xs
unfolding shapes
shape_from [] a = sym (append_nil (shape a))
shape_from (x ∷ xs) a = shape_from xs (followed a x) ∙ (ap (λ l. l ++ shapes xs) (shape_followed a x) ∙ append_assoc (shape a) (shape x) (shapes xs))

pub shape_chained : (xs : List Term) → shape (chained xs) ≡ shapes xs
shape_chained xs = shape_from xs term.Nothing

pub shapes_append : (xs ys : List Term) → shapes (xs ++ ys) ≡ shapes xs ++ shapes ys
unfolding shapes
shapes_append [] ys = refl
shapes_append (x ∷ xs) ys = ap (λ l. shape x ++ l) (shapes_append xs ys) ∙ sym (append_assoc (shape x) (shapes xs) (shapes ys))

-- WHAT TERMS NAME, by what is gathered of them
pub each_append : {X : Type 0} (P : X → Type 0) (xs ys : List X) → Each P xs → Each P ys → Each P (xs ++ ys)
each_append P [] ys h k = k
each_append P (x ∷ xs) ys h k = (h.0, each_append P xs ys h.1 k)

abbrev pub IsThere : Shader → (Room → Bool) → Room → Type 0
IsThere p is_null room = IsTrue (has_room p room && not (is_null room))

pub record Named (p : Shader) (is_null : Room → Bool) (flow : Bool) (rooms : List Room) (threads : List Kind) (spaces written : List Space)
    (changed : List Room) : Type 0 where
  pub no_flow : flow ≡ true
  pub rooms' : Each (IsThere p is_null) rooms
  pub threads' : Each (HasThread p) threads
  pub spaces' : Each (λ space. 0 < size_of (spaces_of p) space) spaces
  pub written' : Each (λ space. IsTrue (is_register space)) written
  pub changed' : Each (λ room. IsTrue (not (is_resource room))) changed

abbrev pub Names : Shader → (Room → Bool) → Term → Type 0
Names p is_null x = Named p is_null (holds_no is_flow x) (rooms_in x) (threads_in x) (spaces_in x) (written_in x) (changed_in x)

module _ {p : Shader} {is_null : Room → Bool} where
  both : {f f' : Bool} {rs rs' : List Room} {ts ts' : List Kind} {ss ss' ws ws' : List Space} {cs cs' : List Room} → Named p is_null f rs ts ss ws cs
      → Named p is_null f' rs' ts' ss' ws' cs'
      → Named p is_null (f && f') (rs ++ rs') (ts ++ ts') (ss ++ ss') (ws ++ ws') (cs ++ cs')
  both {f} {f'} {rs} {rs'} {ts} {ts'} {ss} {ss'} {ws} {ws'} {cs} {cs'} h k = record {
    no_flow = and_from f f' h.no_flow k.no_flow;
    rooms' = each_append (IsThere p is_null) rs rs' h.rooms' k.rooms';
    threads' = each_append (HasThread p) ts ts' h.threads' k.threads';
    spaces' = each_append (λ space. 0 < size_of (spaces_of p) space) ss ss' h.spaces' k.spaces';
    written' = each_append (λ space. IsTrue (is_register space)) ws ws' h.written' k.written';
    changed' = each_append (λ room. IsTrue (not (is_resource room))) cs cs' h.changed' k.changed';
  }

  leaf : Named p is_null true [] [] [] [] []
  leaf = record { no_flow = refl; rooms' = tt; threads' = tt; spaces' = tt; written' = tt; changed' = tt }

  with_room : {f : Bool} {rs : List Room} {ts : List Kind} {ss ws : List Space} {cs : List Room} (room : Room) → IsThere p is_null room
      → Named p is_null f rs ts ss ws cs → Named p is_null f (room ∷ rs) ts ss ws cs
  with_room room l h = record {
    no_flow = h.no_flow;
    rooms' = (l, h.rooms');
    threads' = h.threads';
    spaces' = h.spaces';
    written' =
        h.written';
    changed' = h.changed';
  }

  with_change : {f : Bool} {rs : List Room} {ts : List Kind} {ss ws : List Space} {cs : List Room} (room : Room) → IsThere p is_null room
      → IsTrue (not (is_resource room)) → Named p is_null f rs ts ss ws cs
      → Named p is_null f (room ∷ rs) ts ss ws (room ∷ cs)
  with_change room l n h = record {
    no_flow = h.no_flow;
    rooms' = (l, h.rooms');
    threads' = h.threads';
    spaces' = h.spaces';
    written' =
        h.written';
    changed' = (n, h.changed');
  }

module _ (p : Shader) (is_null : Room → Bool) where
  pub of_plain : (x : Term) → IsPlain p x → Names p is_null x
  of_plain x h = record {
    no_flow = h.no_flow;
    rooms' = subst (Each (IsThere p is_null)) (sym h.no_rooms) tt;
    threads' = h.threads;
    spaces' = h.spaces;
    written' = h.written;
    changed' = subst (Each (λ room. IsTrue (not (is_resource room)))) (sym (quiet_changed x h.no_events)) tt;
  }

  pub plain_word : (w : ℕ) → IsPlain p (term.Word w)
  plain_word w = record { no_events = refl; no_flow = refl; no_rooms = refl; threads = tt; spaces = tt; written = tt }

  pub plain_scratch : (n : ℕ) → IsPlain p (term.Scratch n)
  plain_scratch n = record { no_events = refl; no_flow = refl; no_rooms = refl; threads = tt; spaces = tt; written = tt }

  names_added : (o : Option ℕ) (a : Term) (n : ℕ) → Names p is_null a → Names p is_null (added_by o a n)
  names_added (Some w) a n h = leaf
  names_added None a n h = by_zero (nat_eq n 0)
    where
      by_zero : (b : Bool) → Names p is_null (if b then a else term.Two two.Iadd a (term.Word n))
      by_zero true = h
      by_zero false = both h leaf

  names_known : (n : ℕ) (o : Option ℕ) → Names p is_null (known_or n o)
  names_known n (Some w) = leaf
  names_known n None = leaf

  -- STATEMENTS ONE AFTER THE OTHER
  names_followed : (a b : Term) → Names p is_null a → Names p is_null b → Names p is_null (followed a b)
  names_followed a b h k = first (is_nothing a) (is_nothing b)
    where
      first : (x y : Bool) → Names p is_null (if x then b else if y then a else term.Then a b)
      first true y = k
      first false true = h
      first false false = both h k

  names_from : (xs : List Term) (a : Term) → Names p is_null a → Each (Names p is_null) xs → Names p is_null (chained_from a xs)
  names_from [] a h k = h
  names_from (x ∷ xs) a h k = names_from xs (followed a x) (names_followed a x h k.0) k.1

  pub names_chained : (xs : List Term) → Each (Names p is_null) xs → Names p is_null (chained xs)
  names_chained xs k = names_from xs term.Nothing leaf k

  pub names_map : (f : ℕ → Term) (cs : List ℕ) → ((c : ℕ) → Names p is_null (f c)) → Each (Names p is_null) (map f cs)
  names_map f [] h = tt
  names_map f (c ∷ cs) h = (h c, names_map f cs h)

  -- WHAT IS KEPT
  names_keep : (n : ℕ) (x : Term) → Names p is_null x → Names p is_null (keep n x)
  names_keep n x h = by_literal (literal x)
    where
      by_literal : (o : Option ℕ) → Names p is_null (keep_by o n x)
      by_literal (Some w) = leaf
      by_literal None = h

  pub names_keeps : (at : At) → Names p is_null at.word → Names p is_null at.index → Each (Names p is_null) (keeps at)
  names_keeps at h k = (names_keep word_scratch at.word h, (names_keep structure_scratch at.index k, tt))

  pub names_quarter : (x : Term) → Names p is_null x → Names p is_null (quarter x)
  names_quarter x h = by_literal (literal x)
    where
      by_literal : (o : Option ℕ) → Names p is_null (quarter_by o x)
      by_literal (Some w) = leaf
      by_literal None = h

  pub names_structures : (n : ℕ) (room : Room) → IsThere p is_null room → Names p is_null (structures n room)
  names_structures n room l = by_zero (nat_eq n 0)
    where
      by_zero : (b : Bool) → Names p is_null (if b then term.Word 0 else term.Quotient (term.Length room) n)
      by_zero true = leaf
      by_zero false = with_room room l leaf

  pub names_length : (room : Room) → IsThere p is_null room → Names p is_null (term.Length room)
  names_length room l = with_room room l leaf

  module _ (r : Reach) (there : IsThere p is_null r.room) where
    names_word : (c : ℕ) → Names p is_null (word_of r.address c)
    names_word c = names_added (literal (known_or word_scratch r.address.word)) (known_or word_scratch r.address.word) c
        (names_known word_scratch r.address.word)

    names_index : (n : ℕ) → Names p is_null (index_test n r.room (index_of r.address))
    names_index n = both (names_known structure_scratch r.address.index) (names_structures n r.room there)

    names_test : (c : ℕ) → Names p is_null (test r c)
    names_test c = by_way r.address.way
      where
        by_word : (o : Option ℕ) (n : ℕ) → Names p is_null (structure_by o n r.room (index_of r.address) (word_of r.address c))
        by_word None n = both (names_index n) (both (names_word c) leaf)
        by_word (Some w) n = inside (nat_lt w n)
          where
            inside : (b : Bool) → Names p is_null (if b then index_test n r.room (index_of r.address) else structure_test n r.room
                (index_of r.address) (word_of r.address c))
            inside true = names_index n
            inside false = both (names_index n) (both (names_word c) leaf)

        by_way : (y : Way) → Names p is_null (test_by y r.room r.address c)
        by_way way.Bytes = both (names_word c) (names_length r.room there)
        by_way (way.Structures n) = by_word (literal (word_of r.address c)) n
        by_way way.Words = both (names_known word_scratch r.address.word) (names_length r.room there)

    names_place : (c : ℕ) → Names p is_null (place r c)
    names_place c = by_way r.address.way
      where
        by_word : (o : Option ℕ) (n : ℕ) → Names p is_null (sum_by o (term.Product (index_of r.address) n) (word_of r.address c))
        by_word (Some w) n = names_added None (term.Product (index_of r.address) n) w (names_known structure_scratch r.address.index)
        by_word None n = both (names_known structure_scratch r.address.index) (names_word c)

        by_way : (y : Way) → Names p is_null (place_by y r.address c)
        by_way way.Bytes = names_word c
        by_way (way.Structures n) = by_word (literal (word_of r.address c)) n
        by_way way.Words = names_known word_scratch r.address.word

    names_guarded : (c : ℕ) (body : Term) → Names p is_null body → Names p is_null (guarded r c body)
    names_guarded c body h = by_known (is_known r c)
      where
        by_known : (b : Bool) → Names p is_null (if b then body else term.Guard (test r c) body)
        by_known true = h
        by_known false = both (names_test c) h

    names_answered : (c n : ℕ) (body : Term) → Names p is_null body → Names p is_null (answered r c n body)
    names_answered c n body h = by_known (is_known r c)
      where
        by_known : (b : Bool) → Names p is_null (if b then body else term.Then (term.Set n (term.Word 0)) (term.Guard (test r c) body))
        by_known true = h
        by_known false = both leaf (both (names_test c) h)

    names_load : (d c : ℕ) → Names p is_null (load_of r d c)
    names_load d c = with_room r.room there (names_place c)

    names_together : (xs : List Term) → Each (Names p is_null) xs → Names p is_null (together r xs)
    names_together xs h = both (names_index (words_of r.address.way)) (names_chained xs h)

    pub names_loads : (ds : List ℕ) (select : ℕ → ℕ) → Each (Names p is_null) (loads r ds select)
    names_loads ds select = by_one (stand_together r (map select ds))
      where
        by_one : (b : Bool)
            → Each (Names p is_null) (if b then map zero_of ds ++ together r (map (λ d. load_of r d (select d)) ds) ∷ [] else map
            (λ d. load_part r d (select d)) ds)
        by_one true =
            each_append (Names p is_null) (map zero_of ds) (together r (map (λ d. load_of r d (select d)) ds) ∷ []) (names_map zero_of ds (λ d. leaf))
            (names_together (map (λ d. load_of r d (select d)) ds) (names_map (λ d. load_of r d (select d)) ds (λ d. names_load d (select d))), tt)
        by_one false = names_map (λ d. load_part r d (select d)) ds (λ d. names_answered (select d) (answer_scratch d) (load_of r d (select d))
            (names_load d (select d)))

    module _ (writable : IsTrue (not (is_resource r.room))) where
      pub names_stores : (cs : List ℕ) (v : ℕ → Term) → ((c : ℕ) → Names p is_null (v c)) → Each (Names p is_null) (stores r cs v)
      names_stores cs v h = by_one (stand_together r cs)
        where
          one : (c : ℕ) → Names p is_null (store_of r v c)
          one c = with_change r.room there writable (both (names_place c) (h c))

          by_one : (b : Bool) → Each (Names p is_null) (if b then together r (map (store_of r v) cs) ∷ [] else map (λ c. store_part r c (v c)) cs)
          by_one true = (names_together (map (store_of r v) cs) (names_map (store_of r v) cs one), tt)
          by_one false = names_map (λ c. store_part r c (v c)) cs (λ c. names_guarded c (store_of r v c) (one c))

      pub names_atomic : (kind : Act) (a b : Term) (answers : Bool) → Names p is_null a → Names p is_null b → Names p is_null
          (atomic_part r kind a b answers)
      names_atomic kind a b true h k = names_answered 0 (answer_scratch 0) (change r kind a b)
          (with_change r.room there writable (both (names_place 0) (both h k)))
      names_atomic kind a b false h k = names_guarded 0 (change r kind a b) (with_change r.room there writable (both (names_place 0) (both h k)))

  -- a counter is no read-only view
  pub names_counter : (slot : ℕ) → IsThere p is_null (room.Counter slot) → (n : ℕ) (kind : Act) → Names p is_null
      (term.Atomic n (room.Counter slot) (term.Word 0) kind (term.Word 1) (term.Word 0))
  names_counter slot l n kind = with_change (room.Counter slot) l refl leaf

  pub names_sync : (threads : Bool) (scope : Scope) (classes : Classes) → Names p is_null (term.Sync threads scope classes)
  names_sync threads scope classes = leaf

  pub names_set : (n : ℕ) (x : Term) → Names p is_null x → Names p is_null (term.Set n x)
  names_set n x h = h

-- SHAPES of the parts
shapes_map : (f : ℕ → Term) (item : Item) (cs : List ℕ) → ((c : ℕ) → shape (f c) ≡ item ∷ []) → shapes (map f cs) ≡ map (λ c. item) cs
unfolding shapes
shapes_map f item [] h = refl
shapes_map f item (c ∷ cs) h = ap (λ l. l ++ shapes (map f cs)) (h c) ∙ ap (λ l. item ∷ l) (shapes_map f item cs h)

pub shapes_none : (xs : List Term) → Each (λ x. shape x ≡ []) xs → shapes xs ≡ []
unfolding shapes
shapes_none [] h = refl
shapes_none (x ∷ xs) h = ap (λ l. l ++ shapes xs) h.0 ∙ shapes_none xs h.1

pub none_map : (f : ℕ → Term) (cs : List ℕ) → ((c : ℕ) → shape (f c) ≡ []) → Each (λ x. shape x ≡ []) (map f cs)
none_map f [] h = tt
none_map f (c ∷ cs) h = (h c, none_map f cs h)

pub none_keeps : (at : At) → Each (λ x. shape x ≡ []) (keeps at)
none_keeps at = (by_literal (literal at.word) word_scratch at.word, (by_literal (literal at.index) structure_scratch at.index, tt))
  where
    by_literal : (o : Option ℕ) (n : ℕ) (x : Term) → shape (keep_by o n x) ≡ []
    by_literal (Some w) n x = refl
    by_literal None n x = refl

shape_guarded : (r : Reach) (c : ℕ) (body : Term) → shape (guarded r c body) ≡ shape body
shape_guarded r c body = by_known (is_known r c)
  where
    by_known : (b : Bool) → shape (if b then body else term.Guard (test r c) body) ≡ shape body
    by_known true = refl
    by_known false = refl

shape_answered : (r : Reach) (c n : ℕ) (body : Term) → shape (answered r c n body) ≡ shape body
shape_answered r c n body = by_known (is_known r c)
  where
    by_known : (b : Bool) → shape (if b then body else term.Then (term.Set n (term.Word 0)) (term.Guard (test r c) body)) ≡ shape body
    by_known true = refl
    by_known false = refl

one_list : (x : Term) → shapes (x ∷ []) ≡ shape x
unfolding shapes
one_list x = append_nil (shape x)

shapes_together : (r : Reach) (f : ℕ → Term) (item : Item) (cs : List ℕ) → ((c : ℕ) → shape (f c) ≡ item ∷ []) → shapes (together r (map f cs) ∷ []) ≡
    map (λ c. item) cs
shapes_together r f item cs h = one_list (together r (map f cs)) ∙ (shape_chained (map f cs) ∙ shapes_map f item cs h)

pub shapes_loads : (r : Reach) (ds : List ℕ) (select : ℕ → ℕ) → shapes (loads r ds select) ≡ map (λ c. Loads r.room) ds
shapes_loads r ds select = by_one (stand_together r (map select ds))
  where
    by_one : (b : Bool)
        → shapes (if b then map zero_of ds ++ together r (map (λ d. load_of r d (select d)) ds) ∷ [] else map (λ d. load_part r d (select d)) ds) ≡
        map (λ c. Loads r.room) ds
    by_one true =
        shapes_append (map zero_of ds) (together r (map (λ d. load_of r d (select d)) ds) ∷ [])
        ∙ (ap (λ l. l ++ shapes (together r (map (λ d. load_of r d (select d)) ds) ∷ []))
        (shapes_none (map zero_of ds) (none_map zero_of ds (λ c. refl)))
        ∙ shapes_together r (λ d. load_of r d (select d)) (Loads r.room) ds (λ c. refl))
    by_one false = shapes_map (λ d. load_part r d (select d)) (Loads r.room) ds (λ d. shape_answered r (select d) (answer_scratch d)
        (load_of r d (select d)))

pub shapes_stores : (r : Reach) (cs : List ℕ) (v : ℕ → Term) → shapes (stores r cs v) ≡ map (λ c. Stores r.room) cs
shapes_stores r cs v = by_one (stand_together r cs)
  where
    by_one : (b : Bool) → shapes (if b then together r (map (store_of r v) cs) ∷ [] else map (λ c. store_part r c (v c)) cs) ≡ map
        (λ c. Stores r.room) cs
    by_one true = shapes_together r (store_of r v) (Stores r.room) cs (λ c. refl)
    by_one false = shapes_map (λ c. store_part r c (v c)) (Stores r.room) cs (λ c. shape_guarded r c (store_of r v c))

pub shapes_atomic : (r : Reach) (kind : Act) (a b : Term) (answers : Bool) → shapes (atomic_part r kind a b answers ∷ []) ≡ Changes r.room kind ∷ []
shapes_atomic r kind a b true = one_list (atomic_part r kind a b true) ∙ shape_answered r 0 (answer_scratch 0) (change r kind a b)
shapes_atomic r kind a b false = one_list (atomic_part r kind a b false) ∙ shape_guarded r 0 (change r kind a b)

pub shapes_one : (x : Term) → shapes (x ∷ []) ≡ shape x
shapes_one x = one_list x
