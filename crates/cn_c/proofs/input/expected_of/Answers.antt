use Rattle.std.proofs.Common.{rules, refl}
use Rattle.cn_c.proofs.input.expected_of.Goals as goal

pub returns : goal.returns
returns c = record {
  expected = c.expected-expected.result;
  is = c.expected-expected.ensures;
  char_index = refl;
  byte_index = search rules;
  may_end = search rules;
  white_space = search rules;
  characters = search rules;
}
