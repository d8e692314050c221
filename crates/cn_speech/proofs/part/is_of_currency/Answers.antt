use Rattle.cn_speech.proofs.PartLeaves.{end-of}
use Rattle.cn_speech.proofs.part.is_of_currency.Goals as goal

pub before_rest-written-requires : goal.before_rest-written-requires
before_rest-written-requires c = end-of _ _ _ c.requires c.rest.ensures
