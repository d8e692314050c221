use Rattle.cn_speech.proofs.NoFigures.{figures-none-stay}
use Rattle.cn_speech.proofs.laws.texts_without_figures_stay.Goals as goal

pub returns : goal.returns
returns c = figures-none-stay c.args.voice c.args.wanted
