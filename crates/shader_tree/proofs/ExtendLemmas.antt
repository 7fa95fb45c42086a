-- Nodes that are added in several steps.
use Rattle.std.proofs.Common.{◌≡◌, ℕ, ◌<◌, IsTrue, List, ◌++◌, length, Option, Some, None, refl, arith, ◌∙◌, length-append}
use Rattle.std.specs.Prelude.{slice_get}
use Rattle.std.proofs.lemmas.Option.{slice_get_within}
use Rattle.shader_tree.specs.declared.node.Node.{Node}
use Rattle.shader_tree.specs.Nodes.{Sort, Name, is_of_sort, are_nodes}
use Rattle.shader_tree.specs.Terms.{Term, Extends, Makes}
use Rattle.shader_tree.proofs.TermLemmas.{Keeps, kept_names, kept_terms}
use Rattle.shader_tree.proofs.Truths.{get_more}

pub extends : (old more : List Node) → IsTrue (are_nodes old) → Extends old (old ++ more)
extends old more are =
    let keeps : Keeps old (old ++ more) = λ id n e. get_more old more id n e in
    record {
      count = omega (arith, length-append old more);
      nodes = keeps;
      names = kept_names old _ keeps;
      terms = kept_terms old _ are keeps;
    }

pub extends_itself : (nodes : List Node) → Extends nodes nodes
extends_itself nodes = record {
  count = omega arith;
  nodes = λ id n e. e;
  names = λ name h. h;
  terms = λ id lt. refl;
}

pub extends_on : (a b c : List Node) → Extends a b → Extends b c → Extends a c
extends_on a b c x y = record {
  count = omega (arith, x.count, y.count);
  nodes = λ id n e. y.nodes id n (x.nodes id n e);
  names = λ name h. y.names name (x.names name h);
  terms = λ id lt. y.terms id (omega (arith, lt, x.count)) ∙ x.terms id lt;
}

within : (nodes : List Node) (name : Name) (o : Option Node) → slice_get nodes name.id ≡ o → IsTrue (is_of_sort name.sort o) → name.id < length nodes
within nodes name None e h = absurd (cc h)
within nodes name (Some n) e h = slice_get_within nodes name.id n e

pub makes_on : (a b c : List Node) (sort : Sort) (id : ℕ) (t : Term) → Makes a b sort id t → Extends b c → Makes a c sort id t
makes_on a b c sort id t x y =
    let name : Name = record { sort = sort; id = id } in
    record {
      extends = extends_on a b c x.extends y;
      sorted = y.names name x.sorted;
      term = y.terms id (within b name (slice_get b id) refl x.sorted) ∙ x.term;
    }

pub makes_after : (a b c : List Node) (sort : Sort) (id : ℕ) (t : Term) → Extends a b → Makes b c sort id t → Makes a c sort id t
makes_after a b c sort id t x y = record { extends = extends_on a b c x y.extends; sorted = y.sorted; term = y.term }
