use Rattle.std.proofs.Common.{◌≡◌, ◌≤◌, ◌<◌, ◌+◌, ◌-◌, ℕ, List, length, ap, ◌∙◌, arith}
use Rattle.std.specs.Prelude.{filter}
use Rattle.std.proofs.lemmas.List.{length-map}
use Rattle.std.proofs.lemmas.List.Sums.{length-filter, count_by-le-length}
use Rattle.spirv_words.specs.Sections.{listed_classes}
use Rattle.spirv_symbols.specs.Modules.{interface, is_global}
use Rattle.spirv_symbols.specs.declared.entry.Entry.{Entry}
use Rattle.spirv_symbols.specs.Tables.{weight}
use Rattle.spirv_symbols.proofs.Ids.{number}
use Rattle.spirv_emit.specs.Begun.{IsBegun}
use Rattle.spirv_emit.specs.Emission.{words_left, words_used}
use Rattle.spirv_emit.specs.declared.emitter.Emitter.{Emitter as Emission}
use Rattle.library_tests.proofs.blocks.writes.Goals as goal

-- A module lists no more variables than it has symbols.
listed : (version : ℕ) (es : List Entry) → length (interface version es) ≤ length es
listed version es =
    let p = is_global (listed_classes version) in
    omega (
      arith,
      length-map (filter p es) (λ (e : Entry). e.id),
      length-filter p es,
      count_by-le-length p es,
    )

-- An emitter with ids below 100 and room for 500 words can be finished where 122 words are left.
module _ (version : ℕ) (e : Emission) (b : IsBegun e) (limit : e.symbols.limit ≡ 100) where
  few : length (interface version e.symbols.entries) < 100
  few = omega (arith, listed version e.symbols.entries, number e.frame.context e.symbols b.table, b.ids', limit)

  room : e.code.capacity ≡ 500 → 122 ≤ words_left e
      → length e.code.list + weight e.frame.context e.symbols.entries + length (interface version e.symbols.entries) + 22
      ≤ e.code.capacity
  unfolding words_left
  room capacity left =
      let more : 122 ≤ e.code.capacity - words_used e = left in
      omega (arith, few, more, capacity, b.words')

pub set-requires-clause-ready : goal.set-requires-clause-ready
set-requires-clause-ready c = record {
  begun = c.start.ensures.begun;
  names = c.requires.names c.start.new.self;
  words = omega (arith, c.requires.cost, c.requires.words, c.start.ensures.words);
  ids = omega (arith, c.requires.count, c.requires.ids, c.start.ensures.ids);
}

pub finish-body-requires-clause-few : goal.finish-body-requires-clause-few
finish-body-requires-clause-few c =
    let set = c.set.ensures.alters.grows in
    let flush = c.flush.ensures.flushed.gives.grows in
    let leave = c.leave.ensures.ends.grows in
    let limit = leave.same.limit ∙ flush.same.limit ∙ set.same.limit ∙ c.start.ensures.limit ∙ c.requires.ids in
    omega (arith, few 66304 c.leave.new.self c.leave.ensures.begun limit)

pub finish-body-requires-clause-room : goal.finish-body-requires-clause-room
finish-body-requires-clause-room c =
    let set = c.set.ensures.alters.grows in
    let flush = c.flush.ensures.flushed.gives.grows in
    let leave = c.leave.ensures.ends.grows in
    let limit = leave.same.limit ∙ flush.same.limit ∙ set.same.limit ∙ c.start.ensures.limit ∙ c.requires.ids in
    let start = ap (λ (e : Emission). e.code.capacity) c.start.ensures.rest ∙ c.requires.words in
    let capacity = leave.same.capacity ∙ flush.same.capacity ∙ set.same.capacity ∙ start in
    let left : 122 ≤ words_left c.leave.new.self = omega (
      arith,
      c.leave.ensures.words,
      c.flush.ensures.words,
      c.set.ensures.spends.words,
      c.start.ensures.words,
      c.requires.cost,
      c.requires.words,
    ) in
    room 66304 c.leave.new.self c.leave.ensures.begun limit capacity left
