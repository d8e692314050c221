use Rattle.std.proofs.Common.{◌++◌, ap, codes, encode_utf8_all, option_map, sym}
use Rattle.std.specs.Char.{encode_utf8}
use Rattle.cn_quantity_text.specs.Figures.{figures_text}
use Rattle.cn_replace.proofs.Texts.{puts-known}
use Rattle.cn_phrase.proofs.money_text.put_compact.Goals as goal

pub returns : goal.returns
unfolding encode_utf8
returns g c = puts-known g.S.Sink.took _ _ _ _
    (ap (option_map (λ q. figures_text q ++ encode_utf8_all (codes "元"))) (sym c.in-Some.ensures))
    (g.met.S.Sink.took_both _ _ _ _ _ c.in_ok-put_quantity.ensures c.in_ok-put.ensures)
