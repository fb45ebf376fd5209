-- `answers::put_answer` meets its contract. Assumes nothing.
use Rattle.std.proofs.Common.{sym, arith, rules}
use Rattle.std.proofs.lemmas.Slice.{overwrites}
use Rattle.answers.specs.Answers.{front}
use Rattle.answers.proofs.Answers.{left_done, left_refused, short, roomy}
use Rattle.answers.proofs.put_answer.Goals as goal

pub returns-then-out-answer : goal.returns-then-out-answer
returns-then-out-answer c =
    let n = short _ _ c.if-out-answer.true in record {
      number = sym n;
      written = sym (left_refused _ _ (λ z. omega arith));
    }

pub returns : goal.returns
unfolding front
returns c =
    let a = c.args in
    let n = roomy _ _ c.if-out-answer.false in record {
      number = sym n;
      written = search (rules, overwrites, left_done a.answer.now a.out.now n);
    }
