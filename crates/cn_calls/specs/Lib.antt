pub use Rattle.cn_judge.specs.Answer
pub use Rattle.cn_judge.specs.ErrorText as ReadErrorText
pub use Rattle.cn_spell.specs.ErrorText as PrintErrorText
pub use Rattle.cn_spell.specs.Prints
pub use Rattle.cn_spell.specs.Writes
