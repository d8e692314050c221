use Rattle.std.proofs.Common.{refl, rules}
use Rattle.std.proofs.KnownBytes.{Appends-nil}
use Rattle.cheque.proofs.Replies.{gives_answer}
use Rattle.cheque.specs.declared.reply.TheConstants.{USAGE}
use Rattle.cheque.specs.Reply.{not_asked}
use Rattle.cheque.proofs.reply.write_reply.Goals as goal

pub returns-in-Some-Help : goal.returns-in-Some-Help
returns-in-Some-Help g c = gives_answer _ _ USAGE.now _ _ _ (search rules) c.show.ensures

pub returns-in_ok-writeln-in-None : goal.returns-in_ok-writeln-in-None
returns-in_ok-writeln-in-None g c = (not_asked, search rules, refl, Appends-nil _, search rules)
