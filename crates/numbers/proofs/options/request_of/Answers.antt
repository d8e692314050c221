use Rattle.std.proofs.Common.{arith, ◌<◌, ◌∙◌, length, string_bytes, sym}
use Rattle.numbers.proofs.Requests.{Asks-all, Asks-exact, Asks-help, Asks-method, asked-none, seen-more, unknown}
use Rattle.numbers.proofs.options.request_of.Goals.{in-text, in-text-2, in-text-3, in_default+in_ok-search-in_default}
use Rattle.numbers.proofs.options.request_of.Goals as goal

pub returns-in_err-search-in_default : goal.returns-in_err-search-in_default
returns-in_err-search-in_default c =
    let inside : c.loop-word.word-index < length c.args.words.now = omega arith in
    let none = unknown c.as_str.result.now c.in_default.not-text c.in_default.not-text-2
    c.in_default.not-text-3 (sym c.method_named.ensures ∙ c.in_err-search-in_default.was) in
    rw (c.from_residual.ensures) (asked-none string_bytes c.args.words.now c.loop-word.word-index
    c.word-item.result inside c.word-item.is (rw (← c.as_str.ensures.value) none))

pub loop-word-preserved : goal.loop-word-preserved
loop-word-preserved c =
    let inside : c.loop-word.word-index < length c.args.words.now = omega arith in
    rw (
      seen-more string_bytes c.args.words.now c.loop-word.word-index c.word-item.result inside
          c.word-item.is,
      ← c.as_str.ensures.value,
    ) (elim c.match-as_str.branch [
      | in-text w ↦ rw (w.search-is, w.asks_help-is, w.in-text.is) (Asks-help c.loop-word.invariant)
      | in-text-2 w ↦ rw (w.search-is, w.asks_help-is, w.in-text-2.is) (Asks-exact c.loop-word.invariant)
      | in-text-3 w ↦ rw (w.search-is, w.asks_help-is, w.in-text-3.is) (Asks-all c.loop-word.invariant)
      | in_default+in_ok-search-in_default w ↦ rw (w.search-is, w.asks_help-is)
          (Asks-method c.as_str.result.now _ w.in_default.not-text w.in_default.not-text-2
          w.in_default.not-text-3 (sym w.method_named.ensures ∙ w.in_ok-search-in_default.was)
          c.loop-word.invariant)
    ])
