-- What a contract sees of a list of keys: a pool of distinct ones.
use Rattle.std.specs.Prelude.{◌≡◌, ℕ, List, Some, slice_get, refl}
use Rattle.std.specs.Coded.{Coded, code_by, coded×, coded_ℕ}
use Rattle.node_pool.specs.declared.key.Key.{Key}
use Rattle.node_pool.specs.Pools.{Pooled, pooled}

abbrev pub key_code : Coded Key
key_code =
    code_by (ℕ × ℕ) (coded× coded_ℕ coded_ℕ) (λ k. (k.kind, k.number)) (λ p. record { kind = p.0; number = p.1 }) (λ _. refl)

abbrev pub keyed : List Key → ℕ → Pooled Key
keyed keys capacity = pooled keys capacity

-- no key stands at two places
abbrev pub AreDistinct : List Key → Type 0
AreDistinct keys = (j k : ℕ) (key : Key) → slice_get keys j ≡ Some key → slice_get keys k ≡ Some key → j ≡ k
