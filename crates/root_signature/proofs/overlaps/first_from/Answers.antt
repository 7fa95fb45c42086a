use Rattle.std.proofs.Common.{◌≡◌, ℕ, ◌<◌, ◌≤◌, ltb, true, false, arith, rules}
use Rattle.std.proofs.lemmas.Bool.Decides.{nat_tests}
use Rattle.std.proofs.lemmas.List.Sorted.{IsPartitionPoint-from_clause, IsPartitionedBy-ltb}
use Rattle.root_signature.proofs.overlaps.first_from.Goals as goal

below : (a b : ℕ) → ltb a b ≡ true → a < b
below a b h = grind (arith, nat_tests)

above : (a b : ℕ) → ltb a b ≡ false → b ≤ a
above a b h = grind (arith, nat_tests)

pub returns-clause-before : goal.returns-clause-before
returns-clause-before c =
    let parted = IsPartitionedBy-ltb (λ x. x) _ c.args.row c.requires in
    let point = IsPartitionPoint-from_clause (λ x. ltb x c.args.row) _ _ c.partition_point.ensures.partitioned parted (λ a r q k. search rules) in
    λ k l. below _ _ (point.0 k 0 (omega arith) l)

pub returns-clause-behind : goal.returns-clause-behind
returns-clause-behind c =
    let parted = IsPartitionedBy-ltb (λ x. x) _ c.args.row c.requires in
    let point = IsPartitionPoint-from_clause (λ x. ltb x c.args.row) _ _ c.partition_point.ensures.partitioned parted (λ a r q k. search rules) in
    λ k l m. above _ _ (point.1 k 0 l m)
