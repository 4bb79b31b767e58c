use Rattle.std.proofs.Common.{arith}
use Rattle.pp_word.proofs.NumeralLemmas.{decimal_long, decimal_numeral, decimal_of_six, decimal_read, length_digits, octal_numeral, octal_read}
use Rattle.pp_word.proofs.digits.numeral_law.Goals as goal

pub returns-clause-octal_width : goal.returns-clause-octal_width
returns-clause-octal_width c = length_digits 8

pub returns-clause-octal_value : goal.returns-clause-octal_value
returns-clause-octal_value c = octal_numeral

pub returns-clause-octal_field : goal.returns-clause-octal_field
returns-clause-octal_field c = λ width n some below. octal_read width width n some (omega arith) below

pub returns-clause-decimal_width : goal.returns-clause-decimal_width
returns-clause-decimal_width c = decimal_long

pub returns-clause-short_decimal : goal.returns-clause-short_decimal
returns-clause-short_decimal c = decimal_of_six

pub returns-clause-decimal_value : goal.returns-clause-decimal_value
returns-clause-decimal_value c = decimal_numeral

pub returns-clause-decimal_field : goal.returns-clause-decimal_field
returns-clause-decimal_field c = decimal_read
