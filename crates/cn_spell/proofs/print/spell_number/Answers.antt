use Rattle.std.proofs.Common.{subst, refl}
use Rattle.cn_core.specs.Spelling.{spelling}
use Rattle.cn_spell.specs.Prints.{most_bytes}
use Rattle.cn_spell.proofs.Signs.{signed-is}
use Rattle.cn_spell.proofs.print.spell_number.Goals as goal

pub returns : goal.returns
returns g c =
    let characters = c.args.characters in
    subst (λ text. g.P.Target.took text (most_bytes c.args.method) c.args.target.now
    c.spell_magnitude.new.target c.spell_magnitude.result)
    (signed-is (spelling c.args.method) characters.variant characters.variant characters.case
    characters.case c.is_negative.result c.magnitude.result (g.T.Whole.number c.args.value)
    refl refl c.is_negative.ensures c.magnitude.ensures.value) c.spell_magnitude.ensures
