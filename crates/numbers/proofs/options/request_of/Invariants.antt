use Rattle.std.proofs.Common.{take, map, string_bytes}
use Rattle.numbers.proofs.Requests.{Asks}
use Rattle.numbers.proofs.options.request_of.Given as goal

abbrev pub invariant-loop-word : goal.invariant-loop-word
invariant-loop-word l =
    Asks (take l.word-index (map string_bytes l.words)) l.asks_help l.search
