use Rattle.std.proofs.Common.{sym, subst, ◌∷◌, []}
use Rattle.std.specs.Prelude.{IsTrue}
use Rattle.spirv_words.specs.Text.{instr, is_instr}
use Rattle.spirv_emit.specs.Steps.{Adds}
use Rattle.spirv_emit.proofs.Changing.{fits_atomic}
use Rattle.spirv_emit.proofs.emitter.Emitter.change.Goals as goal

pub value-requires-clause-fits : goal.value-requires-clause-fits
value-requires-clause-fits c = λ r.
    subst (λ n. IsTrue (is_instr
    (instr n (c.word_type-type_id.result ∷ r ∷ c.args.pointer ∷ c.one-device.result ∷ c.zero-unordered.result ∷ c.args.value ∷ []))))
    (sym c.act_number.ensures.number)
    (fits_atomic c.args.kind c.requires.one c.word_type-type_id.result r c.args.pointer c.one-device.result c.zero-unordered.result c.args.value)

pub returns-clause-changes : goal.returns-clause-changes
returns-clause-changes c = record {
  type' = c.word_type-type_id.result;
  device = c.one-device.result;
  unordered = c.zero-unordered.result;
  typed = c.word_type-type_id.ensures;
  one = c.one-device.ensures;
  none = c.zero-unordered.ensures;
  adds = subst (λ n. Adds c.args.self.now c.value.new.self
      (instr n (c.word_type-type_id.result ∷ c.value.result ∷ c.args.pointer ∷ c.one-device.result
      ∷ c.zero-unordered.result ∷ c.args.value ∷ [])) c.value.result) c.act_number.ensures.number c.value.ensures.adds;
}
