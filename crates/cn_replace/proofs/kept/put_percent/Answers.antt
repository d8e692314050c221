use Rattle.std.proofs.Common.{sym, ◌∙◌}
use Rattle.cn_replace.proofs.KeptTexts.{plain_is}
use Rattle.cn_replace.proofs.Texts.{if_puts}
use Rattle.cn_replace.proofs.kept.put_percent.Goals as goal

pub returns-else-is_share_sign : goal.returns-else-is_share_sign
returns-else-is_share_sign g c =
    if_puts g.S.Sink.took _ _ _ _ _ (plain_is _ _ _ _ c.in-Some.ensures.0
    (sym c.is_share_sign.ensures ∙ c.if-is_share_sign.false)) c.put_number.ensures
