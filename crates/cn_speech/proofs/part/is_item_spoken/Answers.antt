use Rattle.cn_speech.proofs.PartLeaves.{end-of}
use Rattle.cn_speech.proofs.part.is_item_spoken.Goals as goal

pub before_rest-requires : goal.before_rest-requires
before_rest-requires c = end-of _ _ _ c.requires c.rest.ensures
