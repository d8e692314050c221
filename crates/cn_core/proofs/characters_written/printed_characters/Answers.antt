use Rattle.std.proofs.Common.{rules}
use Rattle.std.specs.Char.{encode_utf8}
use Rattle.cn_core.specs.Characters.{minus_char}
use Rattle.cn_core.proofs.characters_written.printed_characters.Goals as goal

pub returns-in-Lower-clause-words : goal.returns-in-Lower-clause-words
unfolding encode_utf8 minus_char
returns-in-Lower-clause-words c = search rules

pub returns-in-Upper-clause-words : goal.returns-in-Upper-clause-words
unfolding encode_utf8 minus_char
returns-in-Upper-clause-words c = search rules

pub returns-in-Lower-case-clause-words : goal.returns-in-Lower-case-clause-words
unfolding encode_utf8 minus_char
returns-in-Lower-case-clause-words c = search rules

pub returns-in-Upper-case-clause-words : goal.returns-in-Upper-case-clause-words
unfolding encode_utf8 minus_char
returns-in-Upper-case-clause-words c = search rules
