use Rattle.chinese_number.proofs.Methods.{all_alike, three_alike, two_alike}
use Rattle.chinese_number.proofs.laws.methods.methods_spell_alike_below.Goals as goal

pub returns : goal.returns
returns c = record { all = all_alike; three = three_alike; two = two_alike }
