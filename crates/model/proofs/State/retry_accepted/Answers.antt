-- `State::retry_accepted` meets its contract.
use mathlib.Core.Path.{sym, ◌∙◌, ap}
use Rattle.rules.specs.Forward.{load_value, all_forwarded}
use Rattle.rules.specs.Calls.{retry_rule, retry_with}
use Rattle.model.specs.State.{hierarchy_of}
use Rattle.model.specs.declared.read.Reading.{Reading}
use Rattle.line_bytes.proofs.Reading.{lacks, loaded-of}
use Rattle.model.proofs.Reading.{wait-read}
use Rattle.model.proofs.State.retry_accepted.Goals as goal

pub returns-in_default : goal.returns-in_default
unfolding retry_rule retry_with
returns-in_default c =
    λ m.
    let o = load_value c.args.i c.args.l.address c.args.l.width c.args.self.stores (hierarchy_of c.args.self c.args.cache.now m) in
    let none_read = lacks (all_forwarded c.args.i c.args.self.stores c.args.l.address c.args.l.width) o (sym (ap (λ (r : Reading). r.read) (c.read-r.ensures m)) ∙ c.in_default.is) in
    rw (← c.requires.2, none_read, c.wait_answer.ensures, wait-read, c.read-r.ensures m)

pub returns : goal.returns
unfolding retry_rule retry_with
returns c =
    λ m.
    let o = load_value c.args.i c.args.l.address c.args.l.width c.args.self.stores (hierarchy_of c.args.self c.args.cache.now m) in
    let all_read = loaded-of (all_forwarded c.args.i c.args.self.stores c.args.l.address c.args.l.width) o _ (sym (ap (λ (r : Reading). r.read) (c.read-r.ensures m)) ∙ c.in-Some.is) in
    c.answer_load.ensures _ _ m ∙ rw (← c.requires.2, all_read)
