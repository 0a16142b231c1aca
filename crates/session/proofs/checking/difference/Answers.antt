-- `session::checking::difference` meets its contract: the first pair that differs is the one that `find` finds.
-- Assumes nothing.
use mathlib.Core.Path.{ap, ◌∙◌}
use borrow.Author.Tests.{tests}
use borrow.Author.Rules.{rules}
use Rattle.std.proofs.lemmas.Iterator.{YieldsList-from_slice, YieldsList-from_zip}
use Rattle.std.proofs.lemmas.Iterator.Consumers.{YieldsList-from_enumerate}
use Rattle.std.proofs.lemmas.Iterator.Search.{find_from_yields_List}
use Rattle.session.proofs.Comparing.{differing, reply_of, found}
use Rattle.session.proofs.checking.difference.Goals as goal

pub returns-in-Some : goal.returns-in-Some
returns-in-Some c =
    let chain = YieldsList-from_enumerate {s = c.enumerate-pairs.result} (YieldsList-from_zip (YieldsList-from_slice c.args.registers.now cc) (YieldsList-from_slice c.args.ledger.now cc)) cc in
    let first = find_from_yields_List (differing c.args.member) c.find-found.new.self _ c.find-found.result c.find-found.ensures.ran chain (λ x b q k. search (rules, tests)) in
    ap reply_of (rw c.in-Some.is at first) ∙ found _ _ _ (search rules) (search rules)

pub returns-in-None : goal.returns-in-None
returns-in-None c =
    let chain = YieldsList-from_enumerate {s = c.enumerate-pairs.result} (YieldsList-from_zip (YieldsList-from_slice c.args.registers.now cc) (YieldsList-from_slice c.args.ledger.now cc)) cc in
    let first = find_from_yields_List (differing c.args.member) c.find-found.new.self _ c.find-found.result c.find-found.ensures.ran chain (λ x b q k. search (rules, tests)) in
    ap reply_of (rw c.in-None.is at first) ∙ found _ _ _ (search rules) (search rules)
