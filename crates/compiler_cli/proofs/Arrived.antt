-- When all bytes of a file have come.
use Rattle.std.proofs.Common.{◌≡◌, ℕ, ◌<◌, ◌≤◌, List, [], ◌++◌, length, take, drop, refl, sym, ap, ◌∙◌, subst, rules, append_assoc}
use Rattle.std.specs.Prelude.{Some, None, Option, IsSome, Result, Ok, Err, IfOk}
use Rattle.std.proofs.Common.{arith}
use Rattle.std.proofs.lemmas.List.{length-take, take_at, drop_at, take_all, drop_all, append-nil, take-append-drop}
use Rattle.outside.specs.Told.{File, Fills, StartsFile}
use Rattle.compiler_cli.specs.Streams.{CameWhole, FileCame, FromFile, NothingLeft, most_read}

-- these bytes came so far, and the others are left
abbrev pub Came : Option (List ℕ) → List ℕ → Option (List ℕ) → Type 0
Came None bytes new = new ≡ None
Came (Some xs) bytes None = ⊥
Came (Some xs) bytes (Some rest) = xs ≡ bytes ++ rest

pub none_came : (left : Option (List ℕ)) → Came left [] left
none_came None = refl
none_came (Some xs) = refl

pub more_came : (old mid new : Option (List ℕ)) (bytes piece : List ℕ) (n : ℕ) → Came old bytes mid → Fills mid new n piece → Came old (bytes ++ take n piece) new
more_came None None new bytes piece n c f = f
more_came None (Some m) new bytes piece n c f = absurd (cc)
more_came (Some xs) None new bytes piece n c f = absurd c
more_came (Some xs) (Some rest) None bytes piece n c f = let e = f.rest in absurd (cc)
more_came (Some xs) (Some rest) (Some left) bytes piece n c f =
    let r = f.rest in
    let e : left ≡ drop n rest = cc in
    let j : take n piece ++ left ≡ rest = ap (λ t. t ++ left) f.front ∙ (ap (λ t. take n rest ++ t) e ∙ take-append-drop n rest) in
    c ∙ (ap (λ t. bytes ++ t) (sym j) ∙ sym (append_assoc bytes (take n piece) left))

pub came_full : (old new : Option (List ℕ)) (bytes : List ℕ) → Came old bytes new → length bytes ≡ most_read → CameWhole old bytes new
came_full None new bytes c e = c
came_full (Some xs) None bytes c e = absurd c
came_full (Some xs) (Some rest) bytes c e =
    (sym (ap (take most_read) c ∙ take_at bytes rest most_read e), ap Some (sym (ap (drop most_read) c ∙ drop_at bytes rest most_read e)))

pub came_to_end : (old mid new : Option (List ℕ)) (bytes piece : List ℕ) → Came old bytes mid → Fills mid new 0 piece → 0 < length piece → length bytes ≤ most_read → CameWhole old bytes new
came_to_end None None new bytes piece c f some le = f
came_to_end None (Some m) new bytes piece c f some le = absurd (cc)
came_to_end (Some xs) None new bytes piece c f some le = absurd c
came_to_end (Some xs) (Some rest) new bytes piece c f some le =
    let r : rest ≡ [] = f.last refl some in
    let e : xs ≡ bytes = c ∙ (ap (λ t. bytes ++ t) r ∙ append-nil bytes) in
    let n : drop most_read xs ≡ [] = ap (drop most_read) e ∙ drop_all most_read bytes le in
    (sym (ap (take most_read) e ∙ take_all most_read bytes le), f.rest ∙ ap Some (r ∙ sym n))

-- the file that was begun came
pub file_came : (files : Option (List File)) (name : List ℕ) (old start new : Option (List ℕ)) (bytes : List ℕ) → StartsFile files name old start → CameWhole start bytes new → FileCame files name bytes new
file_came None name old start new bytes s c = tt
file_came (Some files) name old None new bytes s c = let no : IsSome {T = List ℕ} None = s.1 in absurd (search rules)
file_came (Some files) name old (Some xs) new bytes s c = subst (λ file. FromFile file bytes new) s.0 c

-- fewer bytes than are read at most are all that were left
pub came_ended : (start new : Option (List ℕ)) (bytes : List ℕ) → CameWhole start bytes new → length bytes < most_read → NothingLeft new
came_ended None new bytes c lt = subst NothingLeft (sym c) tt
came_ended (Some xs) new bytes c lt =
    let short : length xs ≤ most_read = omega (arith, ap length c.0, length-take 16777217 xs) in
    subst NothingLeft (sym c.1) (drop_all most_read xs short)

pub left_ended : {V E : Type 0} (items : V → List ℕ) (start new : Option (List ℕ)) (result : Result V E) → IfOk result (λ b. CameWhole start (items b) new) → IfOk result (λ b. length (items b) < most_read → NothingLeft new)
left_ended items start new (Ok b) whole = came_ended start new (items b) whole
left_ended items start new (Err e) whole = tt
