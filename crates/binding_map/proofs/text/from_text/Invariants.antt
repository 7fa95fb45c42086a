use Rattle.std.proofs.Common.{◌≡◌, ◌≤◌, ◌+◌, List, ◌++◌, length}
use Rattle.std.specs.Prelude.{filter_map}
use Rattle.word_base.specs.Rules.{IsSound}
use Rattle.binding_map.specs.Texts.{Said, named, said_in, Breaks}
use Rattle.binding_map.proofs.text.from_text.Given as goal

abbrev pub invariant-loop-rest : goal.invariant-loop-rest
invariant-loop-rest l = record {
  done : List Said;
  all : said_in l.bytes ≡ done ++ said_in l.rest;
  line : l.line ≡ length done;
  map : l.bindings ≡ filter_map named done;
  sound : IsSound (Breaks done);
  few : l.line + length l.rest ≤ length l.bytes;
}

abbrev pub decreases-loop-rest : goal.decreases-loop-rest
decreases-loop-rest l = length l.rest
