-- Outputs that stand in held bytes, when more bytes come behind them.
use Rattle.std.proofs.Common.{◌≡◌, ℕ, zero, suc, ◌+◌, ◌-◌, ◌<◌, ◌≤◌, List, [], ◌∷◌, ◌++◌, length, take, drop, map, slice_set, slice_index_or, refl, sym, ap, ◌∙◌, subst, arith, length-append, length-drop}
use Rattle.std.specs.Prelude.{slice_range, All, IsUtf8}
use Rattle.std.proofs.lemmas.List.{take-append-le, drop-append-le, take_all, drop_at, length-map}
use Rattle.std.proofs.lemmas.List.Elements.{All-head, All-tail, All-weaker, All-push, All-set, All-get_or}
use Rattle.outside.specs.Told.{Output, with_last}
use Rattle.outside.specs.Held.{OutputsValue, output_in, Stands, EndsAt}
use Rattle.outside.specs.declared.outputs.Span.{Span}

slice_before : (held more : List ℕ) (a b : ℕ) → a ≤ b → b ≤ length held → slice_range (held ++ more) a b ≡ slice_range held a b
slice_before held more a b h k =
    let d : length (drop a held) ≡ length held - a = length-drop a held in
    ap (take (b - a)) (drop-append-le a held more (omega (arith, h, k))) ∙ take-append-le (b - a) (drop a held) more (omega (arith, d, h, k))

slice_grown : (held more : List ℕ) (a : ℕ) → a ≤ length held → slice_range (held ++ more) a (length held + length more) ≡ slice_range held a (length held) ++ more
slice_grown held more a h =
    let d : length (drop a held) ≡ length held - a = length-drop a held in
    let s : length (drop a held ++ more) ≡ length (drop a held) + length more = length-append (drop a held) more in
    ap (take (length held + length more - a)) (drop-append-le a held more h) ∙ take_all _ (drop a held ++ more) (omega (arith, d, s, h))
    ∙ ap (λ xs. xs ++ more) (sym (take_all (length held - a) (drop a held) (omega (arith, d))))

-- the bytes that came
slice_new : (held more : List ℕ) → slice_range (held ++ more) (length held) (length held + length more) ≡ more
slice_new held more =
    let e : length held + length more - length held ≡ length more = omega arith in
    ap (take (length held + length more - length held)) (drop_at held more (length held) refl) ∙ ap (λ n. take n more) e ∙ take_all (length more) more (omega arith)

slice_empty : (xs : List ℕ) (a : ℕ) → slice_range xs a a ≡ []
slice_empty xs a = let e : a - a ≡ 0 = omega arith in ap (λ n. take n (drop a xs)) e

output_before : (held more : List ℕ) (span : Span) → Stands held span → output_in (held ++ more) span ≡ output_in held span
output_before held more span s =
    let n = slice_before held more span.name span.bytes s.name (omega (arith, s.bytes, s.within)) in
    let b = slice_before held more span.bytes span.end s.bytes s.within in
    rw (n, b) refl

pub stands_on : (held more : List ℕ) (span : Span) → Stands held span → Stands (held ++ more) span
stands_on held more span s =
    let n = slice_before held more span.name span.bytes s.name (omega (arith, s.bytes, s.within)) in
    let l : length (held ++ more) ≡ length held + length more = length-append held more in
    record { name = s.name; bytes = s.bytes; within = omega (arith, l, s.within); text = subst IsUtf8 (sym n) s.text }

outputs_before : (held more : List ℕ) (spans : List Span) → All (Stands held) spans → map (output_in (held ++ more)) spans ≡ map (output_in held) spans
outputs_before held more [] h = refl
outputs_before held more (span ∷ spans) h =
    let e = output_before held more span (All-head (Stands held) span spans h) in
    let r = outputs_before held more spans (All-tail (Stands held) span spans h) in
    rw (e, r) refl

-- ---- one output more

pub begun : (held name : List ℕ) (spans : List Span) (new : Span) → All (Stands held) spans → new.name ≡ length held → new.bytes ≡ length held + length name → new.end ≡ new.bytes
    → map (output_in (held ++ name)) (spans ++ new ∷ []) ≡ map (output_in held) spans ++ record { name = name; bytes = [] } ∷ []
begun held name [] new h a b c =
    let n : slice_range (held ++ name) new.name new.bytes ≡ name = rw (a, b) (slice_new held name) in
    let e : slice_range (held ++ name) new.bytes new.end ≡ [] = rw c (slice_empty (held ++ name) new.bytes) in
    rw (n, e) refl
begun held name (span ∷ spans) new h a b c =
    let e = output_before held name span (All-head (Stands held) span spans h) in
    let r = begun held name spans new (All-tail (Stands held) span spans h) a b c in
    rw (e, r) refl

pub begun_stands : (held name : List ℕ) (spans : List Span) (new : Span) → All (Stands held) spans → IsUtf8 name → new.name ≡ length held → new.bytes ≡ length held + length name → new.end ≡ new.bytes
    → All (Stands (held ++ name)) (spans ++ new ∷ [])
begun_stands held name spans new h u a b c =
    let l : length (held ++ name) ≡ length held + length name = length-append held name in
    let n : slice_range (held ++ name) new.name new.bytes ≡ name = rw (a, b) (slice_new held name) in
    All-push (Stands (held ++ name)) spans new (All-weaker (Stands held) (Stands (held ++ name)) (stands_on held name) spans h)
    (record { name = omega (arith, a, b); bytes = omega (arith, c); within = omega (arith, b, c, l); text = subst IsUtf8 (sym n) u })

pub ends_new : (spans : List Span) (new : Span) (end : ℕ) → new.end ≡ end → EndsAt (spans ++ new ∷ []) end
ends_new [] new end e = e
ends_new (a ∷ []) new end e = e
ends_new (a ∷ b ∷ rest) new end e = ends_new (b ∷ rest) new end e

-- ---- more bytes for the last output

pub grown : (held piece : List ℕ) (spans : List Span) (k : ℕ) (span : Span) → suc k ≡ length spans → All (Stands held) spans → EndsAt spans (length held) → span ≡ slice_index_or spans k span
    → map (output_in (held ++ piece)) (slice_set spans k (record { name = span.name; bytes = span.bytes; end = length held + length piece })) ≡ with_last (map (output_in held) spans) piece
grown held piece [] k span len h e read = absurd (omega (arith, len))
grown held piece (s ∷ []) zero span len h e read =
    let st = All-head (Stands held) s [] h in
    let n : slice_range (held ++ piece) span.name span.bytes ≡ slice_range held s.name s.bytes = rw read (slice_before held piece s.name s.bytes st.name (omega (arith, st.bytes, st.within))) in
    let b : slice_range (held ++ piece) span.bytes (length held + length piece) ≡ slice_range held s.bytes s.end ++ piece = rw (read, e) (slice_grown held piece s.bytes (omega (arith, st.bytes, st.within))) in
    rw (n, b) refl
grown held piece (s ∷ []) (suc k) span len h e read = absurd (omega (arith, len))
grown held piece (s ∷ t ∷ rest) zero span len h e read = absurd (omega (arith, len))
grown held piece (s ∷ t ∷ rest) (suc k) span len h e read =
    let o = output_before held piece s (All-head (Stands held) s (t ∷ rest) h) in
    let r = grown held piece (t ∷ rest) k span (omega (arith, len)) (All-tail (Stands held) s (t ∷ rest) h) e read in
    rw (o, r) refl

pub grown_stands : (held piece : List ℕ) (spans : List Span) (k : ℕ) (span : Span) → suc k ≡ length spans → All (Stands held) spans → span ≡ slice_index_or spans k span
    → All (Stands (held ++ piece)) (slice_set spans k (record { name = span.name; bytes = span.bytes; end = length held + length piece }))
grown_stands held piece spans k span len h read =
    let st : Stands held span = subst (Stands held) (sym read) (All-get_or (Stands held) spans k span (omega (arith, len)) h) in
    let sm = stands_on held piece span st in
    let l : length (held ++ piece) ≡ length held + length piece = length-append held piece in
    All-set (Stands (held ++ piece)) spans k _
    (record { name = sm.name; bytes = omega (arith, st.bytes, st.within); within = omega (arith, l); text = sm.text })
    (All-weaker (Stands held) (Stands (held ++ piece)) (stands_on held piece) spans h)

pub ends_set : (spans : List Span) (k : ℕ) (span : Span) (end : ℕ) → suc k ≡ length spans → span.end ≡ end → EndsAt (slice_set spans k span) end
ends_set [] k span end len e = tt
ends_set (s ∷ []) zero span end len e = e
ends_set (s ∷ []) (suc k) span end len e = absurd (omega (arith, len))
ends_set (s ∷ t ∷ rest) zero span end len e = absurd (omega (arith, len))
ends_set (s ∷ t ∷ []) (suc zero) span end len e = e
ends_set (s ∷ t ∷ []) (suc (suc k)) span end len e = absurd (omega (arith, len))
ends_set (s ∷ t ∷ u ∷ rest) (suc zero) span end len e = absurd (omega (arith, len))
ends_set (s ∷ t ∷ u ∷ rest) (suc (suc k)) span end len e = ends_set (t ∷ u ∷ rest) (suc k) span end (omega (arith, len)) e

-- ---- what the outputs are seen as

abbrev pub values : List Output → ℕ → ℕ → OutputsValue
values list spare room = record { list = list; spare = spare; room = room }

pub begun_value : (old : OutputsValue) (held now text name : List ℕ) (spans spans_now : List Span) (new : Span) (room most used used_now few few_now : ℕ)
    → values (map (output_in held) spans) (most - few) (room - used) ≡ old → All (Stands held) spans → new.name ≡ length held → new.bytes ≡ length held + length text → new.end ≡ new.bytes
    → text ≡ name → now ≡ held ++ text → spans_now ≡ spans ++ new ∷ [] → used_now ≡ used + length text → few_now ≡ few + 1
    → values (map (output_in now) spans_now) (most - few_now) (room - used_now) ≡ values (old.list ++ record { name = name; bytes = [] } ∷ []) (old.spare - 1) (old.room - length name)
begun_value old held now text name spans spans_now new room most used used_now few few_now view h a b c t n s u f =
    let list : map (output_in now) spans_now ≡ map (output_in held) spans ++ record { name = name; bytes = [] } ∷ [] =
    rw (n, s) (begun held text spans new h a b c ∙ ap (λ x. map (output_in held) spans ++ record { name = x; bytes = [] } ∷ []) t) in
    let spare : most - few_now ≡ most - few - 1 = omega (arith, f) in
    let l : length text ≡ length name = ap length t in
    let left : room - used_now ≡ room - used - length name = omega (arith, u, l) in
    rw (list, spare, left) (subst (λ (v : OutputsValue). values (map (output_in held) spans ++ record { name = name; bytes = [] } ∷ []) (most - few - 1) (room - used - length name) ≡ values (v.list ++ record { name = name; bytes = [] } ∷ []) (v.spare - 1) (v.room - length name)) view refl)

pub grown_value : (old : OutputsValue) (held now piece : List ℕ) (spans : List Span) (k end : ℕ) (span : Span) (room most used used_now few : ℕ)
    → values (map (output_in held) spans) (most - few) (room - used) ≡ old → suc k ≡ length spans → All (Stands held) spans → EndsAt spans (length held) → span ≡ slice_index_or spans k span
    → now ≡ held ++ piece → end ≡ length held + length piece → used_now ≡ used + length piece
    → values (map (output_in now) (slice_set spans k (record { name = span.name; bytes = span.bytes; end = end }))) (most - few) (room - used_now) ≡ values (with_last old.list piece) old.spare (old.room - length piece)
grown_value old held now piece spans k end span room most used used_now few view len h e read n at u =
    let list = grown held piece spans k span len h e read in
    let left : room - used_now ≡ room - used - length piece = omega (arith, u) in
    rw (n, at, list, left) (subst (λ (v : OutputsValue). values (with_last (map (output_in held) spans) piece) (most - few) (room - used - length piece) ≡ values (with_last v.list piece) v.spare (v.room - length piece)) view refl)

pub last_place : (old : OutputsValue) (held : List ℕ) (spans : List Span) (spare room len : ℕ) → values (map (output_in held) spans) spare room ≡ old → 0 < length old.list → len ≡ length spans → suc (len - 1) ≡ length spans
last_place old held spans spare room len view some e =
    let m : length (map (output_in held) spans) ≡ length spans = length-map spans (output_in held) in
    let s : 0 < length (map (output_in held) spans) = subst (λ (v : OutputsValue). 0 < length v.list) (sym view) some in
    omega (arith, m, s, e)
