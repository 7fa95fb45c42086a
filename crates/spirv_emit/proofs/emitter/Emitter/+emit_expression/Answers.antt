use Rattle.std.proofs.Common.{◌≡◌, ◌*◌, ◌/◌, ◌%◌, ◌^◌, [], ◌∷◌, refl, sym, ap, ◌∙◌, subst, arith}
use Rattle.std.specs.Prelude.{false, ◌&&◌, nat_lt, if◌then◌else◌}
use Rattle.word_base.specs.Alu.{unary, binary, ternary, inserted_field, pair}
use Rattle.shader_tree.specs.declared.node.Expr.TheVariants as expr
use Rattle.shader_tree.specs.declared.node.Space.TheVariants as space
use Rattle.shader_tree.specs.Values.{IsWord, IsTruth, compares, provided, word_at}
use Rattle.shader_tree.specs.Values as tree
use Rattle.spirv_words.specs.Values.{Word, Truth}
use Rattle.spirv_symbols.specs.declared.symbol.TypeSymbol.TheVariants as symbol
use Rattle.spirv_emit.specs.Emission.{spaces_of, Frame}
use Rattle.spirv_emit.specs.Operations.{calc, choosing, on_word, on_words, on_three, on_four}
use Rattle.spirv_emit.specs.Reads.{space_word}
use Rattle.spirv_emit.specs.Values.{as_value, Gives}
use Rattle.spirv_emit.specs.Values as value
use Rattle.spirv_emit.proofs.Arms.{stand, word_by, words_by, three_by, four_by, with_number, quotient_by, product_by, space_by, space_named, literal_short, register_did, wanted}
use Rattle.spirv_emit.proofs.Operands.{one_parts, two_parts, three_parts, four_parts, picked_parts, both_parts}
use Rattle.spirv_emit.proofs.Parts.{begins, may, next, did}
use Rattle.spirv_emit.proofs.Staying.{space_stays}
use Rattle.spirv_emit.proofs.emitter.Emitter.+emit_expression.Goals as goal

pub emit_expression-x-requires : goal.emit_expression-x-requires
emit_expression-x-requires t c =
    let st = stand c.args.tree.now.nodes c.args.id _ (expr.One c.in-One.op c.in-One.a) c.expr_at.ensures c.in-One.is in (
      omega (arith, st.names.0, c.decreases),
      may _ _ _ _ _ _ _ _ _
          (begins c.args.tree.now.nodes c.args.id (expr.One c.in-One.op c.in-One.a) c.args.self.now c.cost_laws.ensures.words c.cost_laws.ensures.ids
          (stand c.args.tree.now.nodes c.args.id _ (expr.One c.in-One.op c.in-One.a) c.expr_at.ensures c.in-One.is) c.requires),
    )

pub returns-in-One : goal.returns-in-One
returns-in-One t c =
    let st = stand c.args.tree.now.nodes c.args.id _ (expr.One c.in-One.op c.in-One.a) c.expr_at.ensures c.in-One.is in
    let rest = (next _ _ _ _ _ _ _ _ _ (begins c.args.tree.now.nodes c.args.id (expr.One c.in-One.op c.in-One.a) c.args.self.now
    c.cost_laws.ensures.words c.cost_laws.ensures.ids (stand c.args.tree.now.nodes c.args.id _ (expr.One c.in-One.op c.in-One.a) c.expr_at.ensures
    c.in-One.is) c.requires) _ c.emit_expression-x.result c.emit_expression-x.ensures) in
    did c.args.tree.now.nodes c.args.id (expr.One c.in-One.op c.in-One.a) c.args.self.now _ _ _ _ 24 4 st rest
    (one_parts c.word_laws.ensures.value c.args.tree.now.nodes c.args.self.now _ _ _ symbol.Word (on_word (unary c.in-One.op)) c.in-One.a
    c.emit_expression-x.result
    (λ z t x. tree.word (unary c.in-One.op x)) rest.short rest.gives c.operate_one.ensures.gives
    (λ z comp t x w l e. word_by (unary c.in-One.op) z t x w l e))
    refl (rest.short.0, tt) c.operate_one.ensures.begun c.operate_one.ensures.words (omega arith) c.operate_one.ensures.ids (omega arith)

pub emit_expression-x-requires-in-Two : goal.emit_expression-x-requires-in-Two
emit_expression-x-requires-in-Two t c =
    let st = stand c.args.tree.now.nodes c.args.id _ (expr.Two c.in-Two.op c.in-Two.a c.in-Two.b) c.expr_at.ensures c.in-Two.is in (
      omega (arith, st.names.0, c.decreases),
      may _ _ _ _ _ _ _ _ _
          (begins c.args.tree.now.nodes c.args.id (expr.Two c.in-Two.op c.in-Two.a c.in-Two.b) c.args.self.now c.cost_laws.ensures.words
          c.cost_laws.ensures.ids (stand c.args.tree.now.nodes c.args.id _ (expr.Two c.in-Two.op c.in-Two.a c.in-Two.b) c.expr_at.ensures
          c.in-Two.is) c.requires),
    )

pub emit_expression-y-requires : goal.emit_expression-y-requires
emit_expression-y-requires t c =
    let st = stand c.args.tree.now.nodes c.args.id _ (expr.Two c.in-Two.op c.in-Two.a c.in-Two.b) c.expr_at.ensures c.in-Two.is in (
      omega (arith, st.names.2.0, c.decreases),
      may _ _ _ _ _ _ _ _ _
          (next _ _ _ _ _ _ _ _ _ (begins c.args.tree.now.nodes c.args.id (expr.Two c.in-Two.op c.in-Two.a c.in-Two.b) c.args.self.now
          c.cost_laws.ensures.words c.cost_laws.ensures.ids (stand c.args.tree.now.nodes c.args.id _ (expr.Two c.in-Two.op c.in-Two.a c.in-Two.b)
          c.expr_at.ensures c.in-Two.is) c.requires) _ c.emit_expression-x-in-Two.result c.emit_expression-x-in-Two.ensures),
    )

pub returns-in-Two : goal.returns-in-Two
returns-in-Two t c =
    let st = stand c.args.tree.now.nodes c.args.id _ (expr.Two c.in-Two.op c.in-Two.a c.in-Two.b) c.expr_at.ensures c.in-Two.is in
    let rest = (next _ _ _ _ _ _ _ _ _
    (next _ _ _ _ _ _ _ _ _ (begins c.args.tree.now.nodes c.args.id (expr.Two c.in-Two.op c.in-Two.a c.in-Two.b) c.args.self.now
    c.cost_laws.ensures.words c.cost_laws.ensures.ids (stand c.args.tree.now.nodes c.args.id _ (expr.Two c.in-Two.op c.in-Two.a c.in-Two.b)
    c.expr_at.ensures c.in-Two.is) c.requires) _ c.emit_expression-x-in-Two.result c.emit_expression-x-in-Two.ensures) _
    c.emit_expression-y.result c.emit_expression-y.ensures) in
    did c.args.tree.now.nodes c.args.id (expr.Two c.in-Two.op c.in-Two.a c.in-Two.b) c.args.self.now _ _ _ _ 12 2 st rest
    (two_parts c.word_laws.ensures.value c.args.tree.now.nodes c.args.self.now _ _ _ symbol.Word (on_words (λ x y. Word (binary c.in-Two.op x y)))
    c.in-Two.a c.in-Two.b c.emit_expression-x-in-Two.result c.emit_expression-y.result
    (λ z t x y. tree.word (binary c.in-Two.op x y)) rest.short rest.gives c.operate_two.ensures.gives
    (λ z comp t x y w l k e. words_by (λ x y. IsWord (binary c.in-Two.op x y)) z t x y w l k e))
    refl (rest.short.1.0, (rest.short.0, tt)) c.operate_two.ensures.begun c.operate_two.ensures.words (omega arith) c.operate_two.ensures.ids
    (omega arith)

pub emit_expression-x-requires-in-Three : goal.emit_expression-x-requires-in-Three
emit_expression-x-requires-in-Three t c =
    let st = stand c.args.tree.now.nodes c.args.id _ (expr.Three c.in-Three.op c.in-Three.a c.in-Three.b c.in-Three.c) c.expr_at.ensures c.in-Three.is
    in (
      omega (arith, st.names.0, c.decreases),
      may _ _ _ _ _ _ _ _ _
          (begins c.args.tree.now.nodes c.args.id (expr.Three c.in-Three.op c.in-Three.a c.in-Three.b c.in-Three.c) c.args.self.now
          c.cost_laws.ensures.words c.cost_laws.ensures.ids
          (stand c.args.tree.now.nodes c.args.id _ (expr.Three c.in-Three.op c.in-Three.a c.in-Three.b c.in-Three.c) c.expr_at.ensures
          c.in-Three.is) c.requires),
    )

pub emit_expression-y-requires-in-Three : goal.emit_expression-y-requires-in-Three
emit_expression-y-requires-in-Three t c =
    let st = stand c.args.tree.now.nodes c.args.id _ (expr.Three c.in-Three.op c.in-Three.a c.in-Three.b c.in-Three.c) c.expr_at.ensures c.in-Three.is
    in (
      omega (arith, st.names.2.0, c.decreases),
      may _ _ _ _ _ _ _ _ _
          (next _ _ _ _ _ _ _ _ _ (begins c.args.tree.now.nodes c.args.id (expr.Three c.in-Three.op c.in-Three.a c.in-Three.b c.in-Three.c)
          c.args.self.now c.cost_laws.ensures.words c.cost_laws.ensures.ids
          (stand c.args.tree.now.nodes c.args.id _ (expr.Three c.in-Three.op c.in-Three.a c.in-Three.b c.in-Three.c) c.expr_at.ensures
          c.in-Three.is) c.requires) _ c.emit_expression-x-in-Three.result c.emit_expression-x-in-Three.ensures),
    )

pub emit_expression-z-requires : goal.emit_expression-z-requires
emit_expression-z-requires t c =
    let st = stand c.args.tree.now.nodes c.args.id _ (expr.Three c.in-Three.op c.in-Three.a c.in-Three.b c.in-Three.c) c.expr_at.ensures c.in-Three.is
    in (
      omega (arith, st.names.2.2.0, c.decreases),
      may _ _ _ _ _ _ _ _ _
          (next _ _ _ _ _ _ _ _ _
          (next _ _ _ _ _ _ _ _ _ (begins c.args.tree.now.nodes c.args.id (expr.Three c.in-Three.op c.in-Three.a c.in-Three.b c.in-Three.c)
          c.args.self.now c.cost_laws.ensures.words c.cost_laws.ensures.ids
          (stand c.args.tree.now.nodes c.args.id _ (expr.Three c.in-Three.op c.in-Three.a c.in-Three.b c.in-Three.c) c.expr_at.ensures
          c.in-Three.is) c.requires) _ c.emit_expression-x-in-Three.result c.emit_expression-x-in-Three.ensures) _
          c.emit_expression-y-in-Three.result c.emit_expression-y-in-Three.ensures),
    )

pub returns-in-Three : goal.returns-in-Three
returns-in-Three t c =
    let st = stand c.args.tree.now.nodes c.args.id _ (expr.Three c.in-Three.op c.in-Three.a c.in-Three.b c.in-Three.c) c.expr_at.ensures c.in-Three.is
    in
    let rest = (next _ _ _ _ _ _ _ _ _
    (next _ _ _ _ _ _ _ _ _
    (next _ _ _ _ _ _ _ _ _ (begins c.args.tree.now.nodes c.args.id (expr.Three c.in-Three.op c.in-Three.a c.in-Three.b c.in-Three.c)
    c.args.self.now c.cost_laws.ensures.words c.cost_laws.ensures.ids
    (stand c.args.tree.now.nodes c.args.id _ (expr.Three c.in-Three.op c.in-Three.a c.in-Three.b c.in-Three.c) c.expr_at.ensures c.in-Three.is)
    c.requires) _ c.emit_expression-x-in-Three.result c.emit_expression-x-in-Three.ensures) _ c.emit_expression-y-in-Three.result
    c.emit_expression-y-in-Three.ensures) _ c.emit_expression-z.result c.emit_expression-z.ensures) in
    did c.args.tree.now.nodes c.args.id (expr.Three c.in-Three.op c.in-Three.a c.in-Three.b c.in-Three.c) c.args.self.now _ _ _ _ 30 5 st rest
    (three_parts c.word_laws.ensures.value c.args.tree.now.nodes c.args.self.now _ _ _ symbol.Word (on_three (ternary c.in-Three.op)) c.in-Three.a
    c.in-Three.b c.in-Three.c c.emit_expression-x-in-Three.result c.emit_expression-y-in-Three.result c.emit_expression-z.result
    (λ z t x y u. tree.word (ternary c.in-Three.op x y u)) rest.short rest.gives c.operate_three.ensures.gives
    (λ z comp t x y u w l k j e. three_by (ternary c.in-Three.op) z t x y u w l k j e))
    refl (rest.short.1.1.0, (rest.short.1.0, (rest.short.0, tt))) c.operate_three.ensures.begun c.operate_three.ensures.words
    (omega arith) c.operate_three.ensures.ids (omega arith)

pub emit_expression-w-requires : goal.emit_expression-w-requires
emit_expression-w-requires t c =
    let st = stand c.args.tree.now.nodes c.args.id _ (expr.Insert c.in-Insert.width c.in-Insert.offset c.in-Insert.inserted c.in-Insert.base)
    c.expr_at.ensures c.in-Insert.is in (
      omega (arith, st.names.0, c.decreases),
      may _ _ _ _ _ _ _ _ _
          (begins c.args.tree.now.nodes c.args.id (expr.Insert c.in-Insert.width c.in-Insert.offset c.in-Insert.inserted c.in-Insert.base)
          c.args.self.now c.cost_laws.ensures.words c.cost_laws.ensures.ids
          (stand c.args.tree.now.nodes c.args.id _ (expr.Insert c.in-Insert.width c.in-Insert.offset c.in-Insert.inserted c.in-Insert.base)
          c.expr_at.ensures c.in-Insert.is) c.requires),
    )

pub emit_expression-o-requires : goal.emit_expression-o-requires
emit_expression-o-requires t c =
    let st = stand c.args.tree.now.nodes c.args.id _ (expr.Insert c.in-Insert.width c.in-Insert.offset c.in-Insert.inserted c.in-Insert.base)
    c.expr_at.ensures c.in-Insert.is in (
      omega (arith, st.names.2.0, c.decreases),
      may _ _ _ _ _ _ _ _ _
          (next _ _ _ _ _ _ _ _ _
          (begins c.args.tree.now.nodes c.args.id (expr.Insert c.in-Insert.width c.in-Insert.offset c.in-Insert.inserted c.in-Insert.base)
          c.args.self.now c.cost_laws.ensures.words c.cost_laws.ensures.ids
          (stand c.args.tree.now.nodes c.args.id _ (expr.Insert c.in-Insert.width c.in-Insert.offset c.in-Insert.inserted c.in-Insert.base)
          c.expr_at.ensures c.in-Insert.is) c.requires) _ c.emit_expression-w.result c.emit_expression-w.ensures),
    )

pub emit_expression-x-requires-in-Insert : goal.emit_expression-x-requires-in-Insert
emit_expression-x-requires-in-Insert t c =
    let st = stand c.args.tree.now.nodes c.args.id _ (expr.Insert c.in-Insert.width c.in-Insert.offset c.in-Insert.inserted c.in-Insert.base)
    c.expr_at.ensures c.in-Insert.is in (
      omega (arith, st.names.2.2.0, c.decreases),
      may _ _ _ _ _ _ _ _ _
          (next _ _ _ _ _ _ _ _ _
          (next _ _ _ _ _ _ _ _ _
          (begins c.args.tree.now.nodes c.args.id (expr.Insert c.in-Insert.width c.in-Insert.offset c.in-Insert.inserted c.in-Insert.base)
          c.args.self.now c.cost_laws.ensures.words c.cost_laws.ensures.ids
          (stand c.args.tree.now.nodes c.args.id _ (expr.Insert c.in-Insert.width c.in-Insert.offset c.in-Insert.inserted c.in-Insert.base)
          c.expr_at.ensures c.in-Insert.is) c.requires) _ c.emit_expression-w.result c.emit_expression-w.ensures) _ c.emit_expression-o.result
          c.emit_expression-o.ensures),
    )

pub emit_expression-y-requires-in-Insert : goal.emit_expression-y-requires-in-Insert
emit_expression-y-requires-in-Insert t c =
    let st = stand c.args.tree.now.nodes c.args.id _ (expr.Insert c.in-Insert.width c.in-Insert.offset c.in-Insert.inserted c.in-Insert.base)
    c.expr_at.ensures c.in-Insert.is in (
      omega (arith, st.names.2.2.2.0, c.decreases),
      may _ _ _ _ _ _ _ _ _
          (next _ _ _ _ _ _ _ _ _
          (next _ _ _ _ _ _ _ _ _
          (next _ _ _ _ _ _ _ _ _
          (begins c.args.tree.now.nodes c.args.id (expr.Insert c.in-Insert.width c.in-Insert.offset c.in-Insert.inserted c.in-Insert.base)
          c.args.self.now c.cost_laws.ensures.words c.cost_laws.ensures.ids
          (stand c.args.tree.now.nodes c.args.id _ (expr.Insert c.in-Insert.width c.in-Insert.offset c.in-Insert.inserted c.in-Insert.base)
          c.expr_at.ensures c.in-Insert.is) c.requires) _ c.emit_expression-w.result c.emit_expression-w.ensures) _ c.emit_expression-o.result
          c.emit_expression-o.ensures) _ c.emit_expression-x-in-Insert.result c.emit_expression-x-in-Insert.ensures),
    )

pub returns-in-Insert : goal.returns-in-Insert
returns-in-Insert t c =
    let st = stand c.args.tree.now.nodes c.args.id _ (expr.Insert c.in-Insert.width c.in-Insert.offset c.in-Insert.inserted c.in-Insert.base)
    c.expr_at.ensures c.in-Insert.is in
    let rest = (next _ _ _ _ _ _ _ _ _
    (next _ _ _ _ _ _ _ _ _
    (next _ _ _ _ _ _ _ _ _
    (next _ _ _ _ _ _ _ _ _
    (begins c.args.tree.now.nodes c.args.id (expr.Insert c.in-Insert.width c.in-Insert.offset c.in-Insert.inserted c.in-Insert.base)
    c.args.self.now c.cost_laws.ensures.words c.cost_laws.ensures.ids
    (stand c.args.tree.now.nodes c.args.id _ (expr.Insert c.in-Insert.width c.in-Insert.offset c.in-Insert.inserted c.in-Insert.base)
    c.expr_at.ensures c.in-Insert.is) c.requires) _ c.emit_expression-w.result c.emit_expression-w.ensures) _ c.emit_expression-o.result
    c.emit_expression-o.ensures) _ c.emit_expression-x-in-Insert.result c.emit_expression-x-in-Insert.ensures) _
    c.emit_expression-y-in-Insert.result c.emit_expression-y-in-Insert.ensures) in
    did c.args.tree.now.nodes c.args.id (expr.Insert c.in-Insert.width c.in-Insert.offset c.in-Insert.inserted c.in-Insert.base) c.args.self.now _ _ _
    _ 33 6 st rest
    (four_parts c.word_laws.ensures.value c.args.tree.now.nodes c.args.self.now _ _ _ symbol.Word (on_four inserted_field) c.in-Insert.width
    c.in-Insert.offset c.in-Insert.inserted c.in-Insert.base c.emit_expression-w.result c.emit_expression-o.result
    c.emit_expression-x-in-Insert.result c.emit_expression-y-in-Insert.result
    (λ z t x y m n. tree.word (inserted_field x y m n)) rest.short rest.gives c.insert.ensures.gives
    (λ z comp t x y m n w l k j i e. four_by inserted_field z t x y m n w l k j i e))
    refl (rest.short.1.1.1.0, (rest.short.1.1.0, (rest.short.1.0, (rest.short.0, tt)))) c.insert.ensures.begun c.insert.ensures.words
    (omega arith) c.insert.ensures.ids (omega arith)

pub emit_expression-x-requires-in-First : goal.emit_expression-x-requires-in-First
emit_expression-x-requires-in-First t c =
    let st = stand c.args.tree.now.nodes c.args.id _ (expr.First c.in-First.op c.in-First.a c.in-First.b) c.expr_at.ensures c.in-First.is in (
      omega (arith, st.names.0, c.decreases),
      may _ _ _ _ _ _ _ _ _
          (begins c.args.tree.now.nodes c.args.id (expr.First c.in-First.op c.in-First.a c.in-First.b) c.args.self.now c.cost_laws.ensures.words
          c.cost_laws.ensures.ids (stand c.args.tree.now.nodes c.args.id _ (expr.First c.in-First.op c.in-First.a c.in-First.b) c.expr_at.ensures
          c.in-First.is) c.requires),
    )

pub emit_expression-y-requires-in-First : goal.emit_expression-y-requires-in-First
emit_expression-y-requires-in-First t c =
    let st = stand c.args.tree.now.nodes c.args.id _ (expr.First c.in-First.op c.in-First.a c.in-First.b) c.expr_at.ensures c.in-First.is in (
      omega (arith, st.names.2.0, c.decreases),
      may _ _ _ _ _ _ _ _ _
          (next _ _ _ _ _ _ _ _ _ (begins c.args.tree.now.nodes c.args.id (expr.First c.in-First.op c.in-First.a c.in-First.b) c.args.self.now
          c.cost_laws.ensures.words c.cost_laws.ensures.ids
          (stand c.args.tree.now.nodes c.args.id _ (expr.First c.in-First.op c.in-First.a c.in-First.b) c.expr_at.ensures c.in-First.is)
          c.requires) _ c.emit_expression-x-in-First.result c.emit_expression-x-in-First.ensures),
    )

pub returns-in-First : goal.returns-in-First
returns-in-First t c =
    let st = stand c.args.tree.now.nodes c.args.id _ (expr.First c.in-First.op c.in-First.a c.in-First.b) c.expr_at.ensures c.in-First.is in
    let rest = (next _ _ _ _ _ _ _ _ _
    (next _ _ _ _ _ _ _ _ _ (begins c.args.tree.now.nodes c.args.id (expr.First c.in-First.op c.in-First.a c.in-First.b) c.args.self.now
    c.cost_laws.ensures.words c.cost_laws.ensures.ids
    (stand c.args.tree.now.nodes c.args.id _ (expr.First c.in-First.op c.in-First.a c.in-First.b) c.expr_at.ensures c.in-First.is) c.requires) _
    c.emit_expression-x-in-First.result c.emit_expression-x-in-First.ensures) _ c.emit_expression-y-in-First.result
    c.emit_expression-y-in-First.ensures) in
    did c.args.tree.now.nodes c.args.id (expr.First c.in-First.op c.in-First.a c.in-First.b) c.args.self.now _ _ _ _ 24 4 st rest
    (two_parts c.word_laws.ensures.value c.args.tree.now.nodes c.args.self.now _ _ _ symbol.Word
    (on_words (λ x y. Word (pair c.in-First.op x y).first)) c.in-First.a c.in-First.b c.emit_expression-x-in-First.result
    c.emit_expression-y-in-First.result
    (λ z t x y. tree.word (pair c.in-First.op x y).first) rest.short rest.gives c.operate_first.ensures.gives
    (λ z comp t x y w l k e. words_by (λ x y. IsWord (pair c.in-First.op x y).first) z t x y w l k e))
    refl (rest.short.1.0, (rest.short.0, tt)) c.operate_first.ensures.begun c.operate_first.ensures.words (omega arith) c.operate_first.ensures.ids
    (omega arith)

pub emit_expression-x-requires-in-Second : goal.emit_expression-x-requires-in-Second
emit_expression-x-requires-in-Second t c =
    let st = stand c.args.tree.now.nodes c.args.id _ (expr.Second c.in-Second.op c.in-Second.a c.in-Second.b) c.expr_at.ensures c.in-Second.is in (
      omega (arith, st.names.0, c.decreases),
      may _ _ _ _ _ _ _ _ _
          (begins c.args.tree.now.nodes c.args.id (expr.Second c.in-Second.op c.in-Second.a c.in-Second.b) c.args.self.now c.cost_laws.ensures.words
          c.cost_laws.ensures.ids (stand c.args.tree.now.nodes c.args.id _ (expr.Second c.in-Second.op c.in-Second.a c.in-Second.b)
          c.expr_at.ensures c.in-Second.is) c.requires),
    )

pub emit_expression-y-requires-in-Second : goal.emit_expression-y-requires-in-Second
emit_expression-y-requires-in-Second t c =
    let st = stand c.args.tree.now.nodes c.args.id _ (expr.Second c.in-Second.op c.in-Second.a c.in-Second.b) c.expr_at.ensures c.in-Second.is in (
      omega (arith, st.names.2.0, c.decreases),
      may _ _ _ _ _ _ _ _ _
          (next _ _ _ _ _ _ _ _ _ (begins c.args.tree.now.nodes c.args.id (expr.Second c.in-Second.op c.in-Second.a c.in-Second.b) c.args.self.now
          c.cost_laws.ensures.words c.cost_laws.ensures.ids
          (stand c.args.tree.now.nodes c.args.id _ (expr.Second c.in-Second.op c.in-Second.a c.in-Second.b) c.expr_at.ensures c.in-Second.is)
          c.requires) _ c.emit_expression-x-in-Second.result c.emit_expression-x-in-Second.ensures),
    )

pub returns-in-Second : goal.returns-in-Second
returns-in-Second t c =
    let st = stand c.args.tree.now.nodes c.args.id _ (expr.Second c.in-Second.op c.in-Second.a c.in-Second.b) c.expr_at.ensures c.in-Second.is in
    let rest = (next _ _ _ _ _ _ _ _ _
    (next _ _ _ _ _ _ _ _ _ (begins c.args.tree.now.nodes c.args.id (expr.Second c.in-Second.op c.in-Second.a c.in-Second.b) c.args.self.now
    c.cost_laws.ensures.words c.cost_laws.ensures.ids
    (stand c.args.tree.now.nodes c.args.id _ (expr.Second c.in-Second.op c.in-Second.a c.in-Second.b) c.expr_at.ensures c.in-Second.is)
    c.requires) _ c.emit_expression-x-in-Second.result c.emit_expression-x-in-Second.ensures) _ c.emit_expression-y-in-Second.result
    c.emit_expression-y-in-Second.ensures) in
    did c.args.tree.now.nodes c.args.id (expr.Second c.in-Second.op c.in-Second.a c.in-Second.b) c.args.self.now _ _ _ _ 24 4 st rest
    (two_parts c.word_laws.ensures.value c.args.tree.now.nodes c.args.self.now _ _ _ symbol.Word
    (on_words (λ x y. Word (pair c.in-Second.op x y).second)) c.in-Second.a c.in-Second.b c.emit_expression-x-in-Second.result
    c.emit_expression-y-in-Second.result
    (λ z t x y. tree.word (pair c.in-Second.op x y).second) rest.short rest.gives c.operate_second.ensures.gives
    (λ z comp t x y w l k e. words_by (λ x y. IsWord (pair c.in-Second.op x y).second) z t x y w l k e))
    refl (rest.short.1.0, (rest.short.0, tt)) c.operate_second.ensures.begun c.operate_second.ensures.words (omega arith) c.operate_second.ensures.ids
    (omega arith)

pub emit_expression-x-requires-in-Quotient : goal.emit_expression-x-requires-in-Quotient
emit_expression-x-requires-in-Quotient t c =
    let st = stand c.args.tree.now.nodes c.args.id _ (expr.Quotient c.in-Quotient.a c.in-Quotient.by) c.expr_at.ensures c.in-Quotient.is in (
      omega (arith, st.names.0, c.decreases),
      may _ _ _ _ _ _ _ _ _
          (begins c.args.tree.now.nodes c.args.id (expr.Quotient c.in-Quotient.a c.in-Quotient.by) c.args.self.now c.cost_laws.ensures.words
          c.cost_laws.ensures.ids (stand c.args.tree.now.nodes c.args.id _ (expr.Quotient c.in-Quotient.a c.in-Quotient.by) c.expr_at.ensures
          c.in-Quotient.is) c.requires),
    )

pub returns-in-Quotient : goal.returns-in-Quotient
returns-in-Quotient t c =
    let st = stand c.args.tree.now.nodes c.args.id _ (expr.Quotient c.in-Quotient.a c.in-Quotient.by) c.expr_at.ensures c.in-Quotient.is in
    let rest = (next _ _ _ _ _ _ _ _ _ (begins c.args.tree.now.nodes c.args.id (expr.Quotient c.in-Quotient.a c.in-Quotient.by) c.args.self.now
    c.cost_laws.ensures.words c.cost_laws.ensures.ids (stand c.args.tree.now.nodes c.args.id _ (expr.Quotient c.in-Quotient.a c.in-Quotient.by)
    c.expr_at.ensures c.in-Quotient.is) c.requires) _ c.emit_expression-x-in-Quotient.result c.emit_expression-x-in-Quotient.ensures) in
    did c.args.tree.now.nodes c.args.id (expr.Quotient c.in-Quotient.a c.in-Quotient.by) c.args.self.now _ _ _ _ 9 2 st rest
    (one_parts c.word_laws.ensures.value c.args.tree.now.nodes c.args.self.now _ _ _ symbol.Word (with_number 134 c.in-Quotient.by) c.in-Quotient.a
    c.emit_expression-x-in-Quotient.result
    (λ z t x. provided (nat_lt 0 c.in-Quotient.by) (tree.word (x / c.in-Quotient.by))) rest.short rest.gives c.with_number.ensures.gives
    (λ z comp t x w l e. quotient_by c.in-Quotient.by z t x w e))
    refl (rest.short.0, tt) c.with_number.ensures.begun c.with_number.ensures.words (omega arith) c.with_number.ensures.ids (omega arith)

pub emit_expression-x-requires-in-Product : goal.emit_expression-x-requires-in-Product
emit_expression-x-requires-in-Product t c =
    let st = stand c.args.tree.now.nodes c.args.id _ (expr.Product c.in-Product.a c.in-Product.by) c.expr_at.ensures c.in-Product.is in (
      omega (arith, st.names.0, c.decreases),
      may _ _ _ _ _ _ _ _ _
          (begins c.args.tree.now.nodes c.args.id (expr.Product c.in-Product.a c.in-Product.by) c.args.self.now c.cost_laws.ensures.words
          c.cost_laws.ensures.ids (stand c.args.tree.now.nodes c.args.id _ (expr.Product c.in-Product.a c.in-Product.by) c.expr_at.ensures
          c.in-Product.is) c.requires),
    )

pub returns-in-Product : goal.returns-in-Product
returns-in-Product t c =
    let st = stand c.args.tree.now.nodes c.args.id _ (expr.Product c.in-Product.a c.in-Product.by) c.expr_at.ensures c.in-Product.is in
    let rest = (next _ _ _ _ _ _ _ _ _ (begins c.args.tree.now.nodes c.args.id (expr.Product c.in-Product.a c.in-Product.by) c.args.self.now
    c.cost_laws.ensures.words c.cost_laws.ensures.ids (stand c.args.tree.now.nodes c.args.id _ (expr.Product c.in-Product.a c.in-Product.by)
    c.expr_at.ensures c.in-Product.is) c.requires) _ c.emit_expression-x-in-Product.result c.emit_expression-x-in-Product.ensures) in
    did c.args.tree.now.nodes c.args.id (expr.Product c.in-Product.a c.in-Product.by) c.args.self.now _ _ _ _ 9 2 st rest
    (one_parts c.word_laws.ensures.value c.args.tree.now.nodes c.args.self.now _ _ _ symbol.Word (with_number 132 c.in-Product.by) c.in-Product.a
    c.emit_expression-x-in-Product.result
    (λ z t x. tree.word (x * c.in-Product.by % 2 ^ 32)) rest.short rest.gives c.with_number-in-Product.ensures.gives
    (λ z comp t x w l e. product_by c.in-Product.by z t x w e))
    refl (rest.short.0, tt) c.with_number-in-Product.ensures.begun c.with_number-in-Product.ensures.words
    (omega arith) c.with_number-in-Product.ensures.ids (omega arith)

pub emit_expression-t-requires : goal.emit_expression-t-requires
emit_expression-t-requires t c =
    let st = stand c.args.tree.now.nodes c.args.id _ (expr.Pick c.in-Pick.truth c.in-Pick.yes c.in-Pick.no) c.expr_at.ensures c.in-Pick.is in (
      omega (arith, st.names.0, c.decreases),
      may _ _ _ _ _ _ _ _ _
          (begins c.args.tree.now.nodes c.args.id (expr.Pick c.in-Pick.truth c.in-Pick.yes c.in-Pick.no) c.args.self.now c.cost_laws.ensures.words
          c.cost_laws.ensures.ids (stand c.args.tree.now.nodes c.args.id _ (expr.Pick c.in-Pick.truth c.in-Pick.yes c.in-Pick.no)
          c.expr_at.ensures c.in-Pick.is) c.requires),
    )

pub emit_expression-x-requires-in-Pick : goal.emit_expression-x-requires-in-Pick
emit_expression-x-requires-in-Pick t c =
    let st = stand c.args.tree.now.nodes c.args.id _ (expr.Pick c.in-Pick.truth c.in-Pick.yes c.in-Pick.no) c.expr_at.ensures c.in-Pick.is in (
      omega (arith, st.names.2.0, c.decreases),
      may _ _ _ _ _ _ _ _ _
          (next _ _ _ _ _ _ _ _ _ (begins c.args.tree.now.nodes c.args.id (expr.Pick c.in-Pick.truth c.in-Pick.yes c.in-Pick.no) c.args.self.now
          c.cost_laws.ensures.words c.cost_laws.ensures.ids
          (stand c.args.tree.now.nodes c.args.id _ (expr.Pick c.in-Pick.truth c.in-Pick.yes c.in-Pick.no) c.expr_at.ensures c.in-Pick.is)
          c.requires) _ c.emit_expression-t.result c.emit_expression-t.ensures),
    )

pub emit_expression-y-requires-in-Pick : goal.emit_expression-y-requires-in-Pick
emit_expression-y-requires-in-Pick t c =
    let st = stand c.args.tree.now.nodes c.args.id _ (expr.Pick c.in-Pick.truth c.in-Pick.yes c.in-Pick.no) c.expr_at.ensures c.in-Pick.is in (
      omega (arith, st.names.2.2.0, c.decreases),
      may _ _ _ _ _ _ _ _ _
          (next _ _ _ _ _ _ _ _ _
          (next _ _ _ _ _ _ _ _ _ (begins c.args.tree.now.nodes c.args.id (expr.Pick c.in-Pick.truth c.in-Pick.yes c.in-Pick.no) c.args.self.now
          c.cost_laws.ensures.words c.cost_laws.ensures.ids
          (stand c.args.tree.now.nodes c.args.id _ (expr.Pick c.in-Pick.truth c.in-Pick.yes c.in-Pick.no) c.expr_at.ensures c.in-Pick.is)
          c.requires) _ c.emit_expression-t.result c.emit_expression-t.ensures) _ c.emit_expression-x-in-Pick.result
          c.emit_expression-x-in-Pick.ensures),
    )

pub returns-in-Pick : goal.returns-in-Pick
returns-in-Pick t c =
    let st = stand c.args.tree.now.nodes c.args.id _ (expr.Pick c.in-Pick.truth c.in-Pick.yes c.in-Pick.no) c.expr_at.ensures c.in-Pick.is in
    let rest = (next _ _ _ _ _ _ _ _ _
    (next _ _ _ _ _ _ _ _ _ (next _ _ _ _ _ _ _ _ _ (begins c.args.tree.now.nodes c.args.id (expr.Pick c.in-Pick.truth c.in-Pick.yes c.in-Pick.no)
    c.args.self.now c.cost_laws.ensures.words c.cost_laws.ensures.ids
    (stand c.args.tree.now.nodes c.args.id _ (expr.Pick c.in-Pick.truth c.in-Pick.yes c.in-Pick.no) c.expr_at.ensures c.in-Pick.is) c.requires) _
    c.emit_expression-t.result c.emit_expression-t.ensures) _ c.emit_expression-x-in-Pick.result c.emit_expression-x-in-Pick.ensures) _
    c.emit_expression-y-in-Pick.result c.emit_expression-y-in-Pick.ensures) in
    did c.args.tree.now.nodes c.args.id (expr.Pick c.in-Pick.truth c.in-Pick.yes c.in-Pick.no) c.args.self.now _ _ _ _ 6 1 st rest
    (picked_parts c.word_laws.ensures.value c.args.tree.now.nodes c.args.self.now _ _ _ symbol.Word choosing c.in-Pick.truth c.in-Pick.yes
    c.in-Pick.no c.emit_expression-t.result c.emit_expression-x-in-Pick.result c.emit_expression-y-in-Pick.result
    (λ z t b x y. tree.word (if b then x else y)) rest.short rest.gives c.choose.ensures.gives (λ z comp t b x y w e. wanted _ _ e))
    refl (rest.short.1.1.0, (rest.short.1.0, (rest.short.0, tt))) c.choose.ensures.begun c.choose.ensures.words (omega arith) c.choose.ensures.ids
    (omega arith)

pub emit_expression-x-requires-in-Compare : goal.emit_expression-x-requires-in-Compare
emit_expression-x-requires-in-Compare t c =
    let st = stand c.args.tree.now.nodes c.args.id _ (expr.Compare c.in-Compare.how c.in-Compare.a c.in-Compare.b) c.expr_at.ensures c.in-Compare.is
    in (
      omega (arith, st.names.0, c.decreases),
      may _ _ _ _ _ _ _ _ _
          (begins c.args.tree.now.nodes c.args.id (expr.Compare c.in-Compare.how c.in-Compare.a c.in-Compare.b) c.args.self.now
          c.cost_laws.ensures.words c.cost_laws.ensures.ids
          (stand c.args.tree.now.nodes c.args.id _ (expr.Compare c.in-Compare.how c.in-Compare.a c.in-Compare.b) c.expr_at.ensures
          c.in-Compare.is) c.requires),
    )

pub emit_expression-y-requires-in-Compare : goal.emit_expression-y-requires-in-Compare
emit_expression-y-requires-in-Compare t c =
    let st = stand c.args.tree.now.nodes c.args.id _ (expr.Compare c.in-Compare.how c.in-Compare.a c.in-Compare.b) c.expr_at.ensures c.in-Compare.is
    in (
      omega (arith, st.names.2.0, c.decreases),
      may _ _ _ _ _ _ _ _ _
          (next _ _ _ _ _ _ _ _ _ (begins c.args.tree.now.nodes c.args.id (expr.Compare c.in-Compare.how c.in-Compare.a c.in-Compare.b)
          c.args.self.now c.cost_laws.ensures.words c.cost_laws.ensures.ids
          (stand c.args.tree.now.nodes c.args.id _ (expr.Compare c.in-Compare.how c.in-Compare.a c.in-Compare.b) c.expr_at.ensures
          c.in-Compare.is) c.requires) _ c.emit_expression-x-in-Compare.result c.emit_expression-x-in-Compare.ensures),
    )

pub returns-in-Compare : goal.returns-in-Compare
returns-in-Compare t c =
    let st = stand c.args.tree.now.nodes c.args.id _ (expr.Compare c.in-Compare.how c.in-Compare.a c.in-Compare.b) c.expr_at.ensures c.in-Compare.is
    in
    let rest = (next _ _ _ _ _ _ _ _ _
    (next _ _ _ _ _ _ _ _ _ (begins c.args.tree.now.nodes c.args.id (expr.Compare c.in-Compare.how c.in-Compare.a c.in-Compare.b) c.args.self.now
    c.cost_laws.ensures.words c.cost_laws.ensures.ids
    (stand c.args.tree.now.nodes c.args.id _ (expr.Compare c.in-Compare.how c.in-Compare.a c.in-Compare.b) c.expr_at.ensures c.in-Compare.is)
    c.requires) _ c.emit_expression-x-in-Compare.result c.emit_expression-x-in-Compare.ensures) _ c.emit_expression-y-in-Compare.result
    c.emit_expression-y-in-Compare.ensures) in
    did c.args.tree.now.nodes c.args.id (expr.Compare c.in-Compare.how c.in-Compare.a c.in-Compare.b) c.args.self.now _ _ _ _ 6 1 st rest
    (two_parts c.word_laws.ensures.value c.args.tree.now.nodes c.args.self.now _ _ _ symbol.Truth
    (on_words (λ x y. Truth (compares c.in-Compare.how x y))) c.in-Compare.a c.in-Compare.b c.emit_expression-x-in-Compare.result
    c.emit_expression-y-in-Compare.result
    (λ z t x y. tree.truth (compares c.in-Compare.how x y)) rest.short rest.gives c.compare_words.ensures.gives
    (λ z comp t x y w l k e. words_by (λ x y. IsTruth (compares c.in-Compare.how x y)) z t x y w l k e))
    refl (rest.short.1.0, (rest.short.0, tt)) c.compare_words.ensures.begun c.compare_words.ensures.words (omega arith) c.compare_words.ensures.ids
    (omega arith)

pub emit_expression-x-requires-in-Both : goal.emit_expression-x-requires-in-Both
emit_expression-x-requires-in-Both t c =
    let st = stand c.args.tree.now.nodes c.args.id _ (expr.Both c.in-Both.a c.in-Both.b) c.expr_at.ensures c.in-Both.is in (
      omega (arith, st.names.0, c.decreases),
      may _ _ _ _ _ _ _ _ _
          (begins c.args.tree.now.nodes c.args.id (expr.Both c.in-Both.a c.in-Both.b) c.args.self.now c.cost_laws.ensures.words
          c.cost_laws.ensures.ids (stand c.args.tree.now.nodes c.args.id _ (expr.Both c.in-Both.a c.in-Both.b) c.expr_at.ensures c.in-Both.is)
          c.requires),
    )

pub emit_expression-y-requires-in-Both : goal.emit_expression-y-requires-in-Both
emit_expression-y-requires-in-Both t c =
    let st = stand c.args.tree.now.nodes c.args.id _ (expr.Both c.in-Both.a c.in-Both.b) c.expr_at.ensures c.in-Both.is in (
      omega (arith, st.names.2.0, c.decreases),
      may _ _ _ _ _ _ _ _ _
          (next _ _ _ _ _ _ _ _ _ (begins c.args.tree.now.nodes c.args.id (expr.Both c.in-Both.a c.in-Both.b) c.args.self.now
          c.cost_laws.ensures.words c.cost_laws.ensures.ids (stand c.args.tree.now.nodes c.args.id _ (expr.Both c.in-Both.a c.in-Both.b)
          c.expr_at.ensures c.in-Both.is) c.requires) _ c.emit_expression-x-in-Both.result c.emit_expression-x-in-Both.ensures),
    )

pub returns-in-Both : goal.returns-in-Both
returns-in-Both t c =
    let st = stand c.args.tree.now.nodes c.args.id _ (expr.Both c.in-Both.a c.in-Both.b) c.expr_at.ensures c.in-Both.is in
    let rest = (next _ _ _ _ _ _ _ _ _
    (next _ _ _ _ _ _ _ _ _ (begins c.args.tree.now.nodes c.args.id (expr.Both c.in-Both.a c.in-Both.b) c.args.self.now c.cost_laws.ensures.words
    c.cost_laws.ensures.ids (stand c.args.tree.now.nodes c.args.id _ (expr.Both c.in-Both.a c.in-Both.b) c.expr_at.ensures c.in-Both.is)
    c.requires) _ c.emit_expression-x-in-Both.result c.emit_expression-x-in-Both.ensures) _ c.emit_expression-y-in-Both.result
    c.emit_expression-y-in-Both.ensures) in
    did c.args.tree.now.nodes c.args.id (expr.Both c.in-Both.a c.in-Both.b) c.args.self.now _ _ _ _ 5 1 st rest
    (both_parts c.word_laws.ensures.value c.args.tree.now.nodes c.args.self.now _ _ _ symbol.Truth (calc 167) c.in-Both.a c.in-Both.b
    c.emit_expression-x-in-Both.result c.emit_expression-y-in-Both.result
    (λ z t x y. tree.truth (x && y)) rest.short rest.gives c.both_truths.ensures.gives (λ z comp t x y w e. wanted _ _ e))
    refl (rest.short.1.0, (rest.short.0, tt)) c.both_truths.ensures.begun c.both_truths.ensures.words (omega arith) c.both_truths.ensures.ids
    (omega arith)

pub returns-in-Word : goal.returns-in-Word
returns-in-Word t c =
    let st = stand c.args.tree.now.nodes c.args.id _ (expr.Word c.in-Word.w) c.expr_at.ensures c.in-Word.is in
    did c.args.tree.now.nodes c.args.id (expr.Word c.in-Word.w) c.args.self.now _ _ [] _ 4 1 st
    (begins c.args.tree.now.nodes c.args.id (expr.Word c.in-Word.w) c.args.self.now c.cost_laws.ensures.words c.cost_laws.ensures.ids
    (stand c.args.tree.now.nodes c.args.id _ (expr.Word c.in-Word.w) c.expr_at.ensures c.in-Word.is) c.requires) c.constant.ensures.gives
    (literal_short c.in-Word.w c.constant.ensures.fits) tt
    c.constant.ensures.begun c.constant.ensures.words (omega arith) c.constant.ensures.ids (omega arith)

pub returns-in-Scratch : goal.returns-in-Scratch
returns-in-Scratch t c =
    let st = stand c.args.tree.now.nodes c.args.id _ (expr.Scratch c.in-Scratch.n) c.expr_at.ensures c.in-Scratch.is in
    did c.args.tree.now.nodes c.args.id (expr.Scratch c.in-Scratch.n) c.args.self.now _ _ [] _ 9 2 st
    (begins c.args.tree.now.nodes c.args.id (expr.Scratch c.in-Scratch.n) c.args.self.now c.cost_laws.ensures.words c.cost_laws.ensures.ids
    (stand c.args.tree.now.nodes c.args.id _ (expr.Scratch c.in-Scratch.n) c.expr_at.ensures c.in-Scratch.is) c.requires)
    c.local_word.ensures.gives refl tt
    c.local_word.ensures.begun c.local_word.ensures.words (omega arith) c.local_word.ensures.ids (omega arith)

pub returns-in-Thread : goal.returns-in-Thread
returns-in-Thread t c =
    let st = stand c.args.tree.now.nodes c.args.id _ (expr.Thread c.in-Thread.kind c.in-Thread.component) c.expr_at.ensures c.in-Thread.is in
    did c.args.tree.now.nodes c.args.id (expr.Thread c.in-Thread.kind c.in-Thread.component) c.args.self.now _ _ [] _ 24 4 st
    (begins c.args.tree.now.nodes c.args.id (expr.Thread c.in-Thread.kind c.in-Thread.component) c.args.self.now c.cost_laws.ensures.words
    c.cost_laws.ensures.ids (stand c.args.tree.now.nodes c.args.id _ (expr.Thread c.in-Thread.kind c.in-Thread.component) c.expr_at.ensures
    c.in-Thread.is) c.requires) c.thread.ensures.gives refl tt
    c.thread.ensures.begun c.thread.ensures.words (omega arith) c.thread.ensures.ids (omega arith)

pub returns-in-Length : goal.returns-in-Length
returns-in-Length t c =
    let st = stand c.args.tree.now.nodes c.args.id _ (expr.Length c.in-Length.room) c.expr_at.ensures c.in-Length.is in
    did c.args.tree.now.nodes c.args.id (expr.Length c.in-Length.room) c.args.self.now _ _ [] _ 6 1 st
    (begins c.args.tree.now.nodes c.args.id (expr.Length c.in-Length.room) c.args.self.now c.cost_laws.ensures.words c.cost_laws.ensures.ids
    (stand c.args.tree.now.nodes c.args.id _ (expr.Length c.in-Length.room) c.expr_at.ensures c.in-Length.is) c.requires) c.length.ensures.gives
    refl tt
    c.length.ensures.begun c.length.ensures.words (omega arith) c.length.ensures.ids (omega arith)

pub array_word-requires-clause-there : goal.array_word-requires-clause-there
array_word-requires-clause-there t c =
    let st = stand c.args.tree.now.nodes c.args.id _ (expr.Read space.Temps c.in-Read.word) c.expr_at.ensures
    (c.in-Read.is ∙ ap (λ s. expr.Read s c.in-Read.word) c.in-Temps.is) in
    space_stays c.args.self.now _ _ c.emit_expression-index.ensures.emitted.gives.grows space.Temps
    (space_named c.args.tree.now.nodes c.args.id c.args.self.now space.Temps c.in-Read.word st c.requires.names)
    (subst (λ (f : Frame). f.separate ≡ false) (sym c.emit_expression-index.ensures.emitted.gives.grows.same.frame) c.if-self.false)

pub returns-else-self : goal.returns-else-self
returns-else-self t c =
    let st = stand c.args.tree.now.nodes c.args.id _ (expr.Read space.Temps c.in-Read.word) c.expr_at.ensures
    (c.in-Read.is ∙ ap (λ s. expr.Read s c.in-Read.word) c.in-Temps.is) in
    let rest = (next _ _ _ _ _ _ _ _ _ (begins c.args.tree.now.nodes c.args.id (expr.Read space.Temps c.in-Read.word) c.args.self.now
    c.cost_laws.ensures.words c.cost_laws.ensures.ids (stand c.args.tree.now.nodes c.args.id _ (expr.Read space.Temps c.in-Read.word)
    c.expr_at.ensures (c.in-Read.is ∙ ap (λ s. expr.Read s c.in-Read.word) c.in-Temps.is)) c.requires) _ c.emit_expression-index.result
    c.emit_expression-index.ensures) in
    did c.args.tree.now.nodes c.args.id (expr.Read space.Temps c.in-Read.word) c.args.self.now _ _ _ _ 9 2 st rest
    (one_parts c.word_laws.ensures.value c.args.tree.now.nodes c.args.self.now _ _ _ symbol.Word (space_word space.Temps) c.in-Read.word
    c.emit_expression-index.result
    (λ z t x. word_at (spaces_of z.frame) z.machine.setting t space.Temps x) rest.short rest.gives
    (subst (λ s. Gives c.emit_expression-index.new.self c.array_word.new.self (value.a_word c.emit_expression-index.result ∷ [])
    (value.a_word c.array_word.result ∷ []) (space_word s)) c.in-Temps.is c.array_word.ensures.gives)
    (λ z comp t x w l e. space_by space.Temps z t x w e))
    refl (rest.short.0, tt) c.array_word.ensures.begun c.array_word.ensures.words (omega arith) c.array_word.ensures.ids (omega arith)

pub array_word-requires-in-Indexable-clause-there : goal.array_word-requires-in-Indexable-clause-there
array_word-requires-in-Indexable-clause-there t c =
    let st = stand c.args.tree.now.nodes c.args.id _ (expr.Read (space.Indexable c.in-Indexable.slot) c.in-Read.word) c.expr_at.ensures
    (c.in-Read.is ∙ ap (λ s. expr.Read s c.in-Read.word) c.in-Indexable.is) in
    space_stays c.args.self.now _ _ c.emit_expression-index-in-Indexable.ensures.emitted.gives.grows (space.Indexable c.in-Indexable.slot)
    (space_named c.args.tree.now.nodes c.args.id c.args.self.now (space.Indexable c.in-Indexable.slot) c.in-Read.word st c.requires.names)

pub returns-in-Indexable : goal.returns-in-Indexable
returns-in-Indexable t c =
    let st = stand c.args.tree.now.nodes c.args.id _ (expr.Read (space.Indexable c.in-Indexable.slot) c.in-Read.word) c.expr_at.ensures
    (c.in-Read.is ∙ ap (λ s. expr.Read s c.in-Read.word) c.in-Indexable.is) in
    let rest = (next _ _ _ _ _ _ _ _ _ (begins c.args.tree.now.nodes c.args.id (expr.Read (space.Indexable c.in-Indexable.slot) c.in-Read.word)
    c.args.self.now c.cost_laws.ensures.words c.cost_laws.ensures.ids
    (stand c.args.tree.now.nodes c.args.id _ (expr.Read (space.Indexable c.in-Indexable.slot) c.in-Read.word) c.expr_at.ensures
    (c.in-Read.is ∙ ap (λ s. expr.Read s c.in-Read.word) c.in-Indexable.is)) c.requires) _ c.emit_expression-index-in-Indexable.result
    c.emit_expression-index-in-Indexable.ensures) in
    did c.args.tree.now.nodes c.args.id (expr.Read (space.Indexable c.in-Indexable.slot) c.in-Read.word) c.args.self.now _ _ _ _ 9 2 st rest
    (one_parts c.word_laws.ensures.value c.args.tree.now.nodes c.args.self.now _ _ _ symbol.Word (space_word (space.Indexable c.in-Indexable.slot))
    c.in-Read.word c.emit_expression-index-in-Indexable.result
    (λ z t x. word_at (spaces_of z.frame) z.machine.setting t (space.Indexable c.in-Indexable.slot) x) rest.short rest.gives
    c.array_word-in-Indexable.ensures.gives (λ z comp t x w l e. space_by (space.Indexable c.in-Indexable.slot) z t x w e))
    refl (rest.short.0, tt) c.array_word-in-Indexable.ensures.begun c.array_word-in-Indexable.ensures.words
    (omega arith) c.array_word-in-Indexable.ensures.ids (omega arith)

pub buffer_word-requires-clause-there : goal.buffer_word-requires-clause-there
buffer_word-requires-clause-there t c =
    let st = stand c.args.tree.now.nodes c.args.id _ (expr.Read (space.Constant c.in-Constant.slot) c.in-Read.word) c.expr_at.ensures
    (c.in-Read.is ∙ ap (λ s. expr.Read s c.in-Read.word) c.in-Constant.is) in
    space_stays c.args.self.now _ _ c.emit_expression-index-in-Constant.ensures.emitted.gives.grows (space.Constant c.in-Constant.slot)
    (space_named c.args.tree.now.nodes c.args.id c.args.self.now (space.Constant c.in-Constant.slot) c.in-Read.word st c.requires.names)

pub returns-in-Constant : goal.returns-in-Constant
returns-in-Constant t c =
    let st = stand c.args.tree.now.nodes c.args.id _ (expr.Read (space.Constant c.in-Constant.slot) c.in-Read.word) c.expr_at.ensures
    (c.in-Read.is ∙ ap (λ s. expr.Read s c.in-Read.word) c.in-Constant.is) in
    let rest = (next _ _ _ _ _ _ _ _ _ (begins c.args.tree.now.nodes c.args.id (expr.Read (space.Constant c.in-Constant.slot) c.in-Read.word)
    c.args.self.now c.cost_laws.ensures.words c.cost_laws.ensures.ids
    (stand c.args.tree.now.nodes c.args.id _ (expr.Read (space.Constant c.in-Constant.slot) c.in-Read.word) c.expr_at.ensures
    (c.in-Read.is ∙ ap (λ s. expr.Read s c.in-Read.word) c.in-Constant.is)) c.requires) _ c.emit_expression-index-in-Constant.result
    c.emit_expression-index-in-Constant.ensures) in
    did c.args.tree.now.nodes c.args.id (expr.Read (space.Constant c.in-Constant.slot) c.in-Read.word) c.args.self.now _ _ _ _ 40 8 st rest
    (one_parts c.word_laws.ensures.value c.args.tree.now.nodes c.args.self.now _ _ _ symbol.Word (space_word (space.Constant c.in-Constant.slot))
    c.in-Read.word c.emit_expression-index-in-Constant.result
    (λ z t x. word_at (spaces_of z.frame) z.machine.setting t (space.Constant c.in-Constant.slot) x) rest.short rest.gives c.buffer_word.ensures.gives
    (λ z comp t x w l e. space_by (space.Constant c.in-Constant.slot) z t x w e))
    refl (rest.short.0, tt) c.buffer_word.ensures.begun c.buffer_word.ensures.words (omega arith) c.buffer_word.ensures.ids (omega arith)

pub array_word-requires-in-ImmediateConstant-clause-there : goal.array_word-requires-in-ImmediateConstant-clause-there
array_word-requires-in-ImmediateConstant-clause-there t c =
    let st = stand c.args.tree.now.nodes c.args.id _ (expr.Read space.ImmediateConstant c.in-Read.word) c.expr_at.ensures
    (c.in-Read.is ∙ ap (λ s. expr.Read s c.in-Read.word) c.in-ImmediateConstant.is) in
    space_stays c.args.self.now _ _ c.emit_expression-index-in-ImmediateConstant.ensures.emitted.gives.grows space.ImmediateConstant
    (space_named c.args.tree.now.nodes c.args.id c.args.self.now space.ImmediateConstant c.in-Read.word st c.requires.names)

pub returns-in-ImmediateConstant : goal.returns-in-ImmediateConstant
returns-in-ImmediateConstant t c =
    let st = stand c.args.tree.now.nodes c.args.id _ (expr.Read space.ImmediateConstant c.in-Read.word) c.expr_at.ensures
    (c.in-Read.is ∙ ap (λ s. expr.Read s c.in-Read.word) c.in-ImmediateConstant.is) in
    let rest = (next _ _ _ _ _ _ _ _ _ (begins c.args.tree.now.nodes c.args.id (expr.Read space.ImmediateConstant c.in-Read.word) c.args.self.now
    c.cost_laws.ensures.words c.cost_laws.ensures.ids (stand c.args.tree.now.nodes c.args.id _ (expr.Read space.ImmediateConstant c.in-Read.word)
    c.expr_at.ensures (c.in-Read.is ∙ ap (λ s. expr.Read s c.in-Read.word) c.in-ImmediateConstant.is)) c.requires) _
    c.emit_expression-index-in-ImmediateConstant.result c.emit_expression-index-in-ImmediateConstant.ensures) in
    did c.args.tree.now.nodes c.args.id (expr.Read space.ImmediateConstant c.in-Read.word) c.args.self.now _ _ _ _ 9 2 st rest
    (one_parts c.word_laws.ensures.value c.args.tree.now.nodes c.args.self.now _ _ _ symbol.Word (space_word space.ImmediateConstant) c.in-Read.word
    c.emit_expression-index-in-ImmediateConstant.result
    (λ z t x. word_at (spaces_of z.frame) z.machine.setting t space.ImmediateConstant x) rest.short rest.gives
    (subst (λ s. Gives c.emit_expression-index-in-ImmediateConstant.new.self c.array_word-in-ImmediateConstant.new.self
    (value.a_word c.emit_expression-index-in-ImmediateConstant.result ∷ []) (value.a_word c.array_word-in-ImmediateConstant.result ∷ [])
    (space_word s)) c.in-ImmediateConstant.is c.array_word-in-ImmediateConstant.ensures.gives)
    (λ z comp t x w l e. space_by space.ImmediateConstant z t x w e))
    refl (rest.short.0, tt) c.array_word-in-ImmediateConstant.ensures.begun c.array_word-in-ImmediateConstant.ensures.words
    (omega arith) c.array_word-in-ImmediateConstant.ensures.ids (omega arith)

pub returns-then-self : goal.returns-then-self
returns-then-self t c =
    let st = stand c.args.tree.now.nodes c.args.id _ (expr.Read space.Temps c.in-Read.word) c.expr_at.ensures
    (c.in-Read.is ∙ ap (λ s. expr.Read s c.in-Read.word) c.in-Temps.is) in
    register_did c.args.tree.now.nodes c.args.id c.in-Read.word c.literal_at-k.result _ c.args.self.now _ st c.literal_at-k.ensures.literal
    c.literal_at-k.ensures.fits
    c.local_word-then-self.ensures.gives c.local_word-then-self.ensures.begun c.local_word-then-self.ensures.words c.local_word-then-self.ensures.ids
