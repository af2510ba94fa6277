-- `put_number` calls itself for all digits but the last.
use native.Mathlib.Omega.{arith}
use Rattle.text.proofs.DigitLaws.{one_length, tens_length, put_digit, put_digits}
use Rattle.text.proofs.+put_number.Goals as goal

pub bounds-text-at : goal.bounds-text-at
bounds-text-at t c = omega (arith, one_length c.args.n (omega arith))

pub returns-then-n-lt10 : goal.returns-then-n-lt10
returns-then-n-lt10 t c = put_digit c.args.n c.args.at c.args.text.now (omega arith)

pub put_number-last-requires : goal.put_number-last-requires
put_number-last-requires t c = (omega arith, omega (arith, tens_length c.args.n (omega arith) (omega arith)))

pub bounds-text-last : goal.bounds-text-last
bounds-text-last t c = omega (arith, tens_length c.args.n (omega arith) (omega arith))

pub overflow_add-result-2 : goal.overflow_add-result-2
overflow_add-result-2 t c = omega (arith, tens_length c.args.n (omega arith) (omega arith))

pub returns : goal.returns
returns t c = put_digits c.args.n (omega arith) (omega arith) c.put_number-last.ensures
