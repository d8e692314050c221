use Rattle.std.proofs.Common.{◌<◌, chars, is_some, ap, ◌∙◌, arith}
use Rattle.cn_grammar.proofs.Following.{expected-is}
use Rattle.cn_grammar.proofs.expecting.expected_next.Goals as goal

pub returns : goal.returns
returns g c =
    let few : c.read_on-read.result.count < 18446744073709551615 =
    omega (arith, c.read_on-read.ensures.short) in
    expected-is g.G.Grammar.is_form g.G.Grammar.machine c.states_read_the_forms.ensures g.G.Listed.characters
    g.G.Listed.white_space c.characters_are_listed.ensures (chars c.args.text.now)
    (chars c.read_on-read.result.rest.now) c.begin.result c.read_on-read.result.state
    (record {
      char_index = c.read_on-read.result.count;
      may_end = c.is_some.result;
      characters = c.next_characters.result;
      white_space = c.takes_white_space.result;
    }) c.begin.ensures c.read_on-read.ensures.read.has (c.read_on-read.ensures.read.stops few)
    (c.is_some.ensures ∙ ap is_some c.end.ensures) c.next_characters.ensures
    c.takes_white_space.ensures
