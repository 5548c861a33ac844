-- A constant of one number: its words fit, and reading them at once gives what reading each of them does.
use Rattle.std.proofs.Common.{arith, ◌≡◌, ◌∙◌, ◌-◌, ℕ, List, Some, codes, drop, rules, sym, to_z-of_z, w64}
use Rattle.std.proofs.Common.{take as take_front}
use Rattle.std.specs.Prelude.{FitsSigned}
use Rattle.vcode_reader.specs.declared.keyword.Keyword.TheVariants.{Const}
use Rattle.vcode_reader.specs.Ahead.{begun}
use Rattle.vcode_reader.specs.Numbers.{number_of}
use Rattle.vcode_reader.specs.Parsing.{take}
use Rattle.vcode_reader.proofs.Earlier.{front_read}
use Rattle.vcode_reader.proofs.Numerals.{int_passed, of_number}
use Rattle.vcode_reader.proofs.reader.Scanner.constant.Goals as goal

pub take_constant-requires-clause-fits : goal.take_constant-requires-clause-fits
take_constant-requires-clause-fits g c =
    let s = begun Const c.args.self.now in
    let kind = take (codes "INT") s.line s.found in
    let word : List ℕ = take_front (c.in-Some.len - 5) (drop 5 c.args.text.now) in
    let known = c.in-Some.ensures.number_is.number_is in
    let same : (w : List ℕ) → number_of w ≡ Some c.in-Some.number → take word s.line kind ≡ take w s.line kind =
    λ w is. sym (of_number word c.in-Some.number c.args.self.now.line c.args.self.now.found c.requires.good known)
    ∙ of_number w c.in-Some.number c.args.self.now.line c.args.self.now.found c.requires.good is in
    let read = front_read s _ _ _ (int_passed s c.args.text.now c.split_at.result.1.now c.in-Some.number c.in-Some.len
    (take word s.line kind) c.requires.text c.requires.word c.in-Some.ensures c.split_at.ensures.back same)
    c.requires.fits in
    let within : FitsSigned w64 c.in-Some.number = search rules in
    (word, rw (to_z-of_z within) known, rw (← c.self.view_is) at read)

pub returns-clause-same : goal.returns-clause-same
returns-clause-same g c =
    let fits : FitsSigned w64 c.in-Some.number = search rules in
    let s = begun Const c.args.self.now in
    let takes : (w : List ℕ) → number_of w ≡ Some c.in-Some.number → c.take_constant.new.self
    ≡ take w s.line (take (codes "INT") s.line s.found) = grind (arith, to_z-of_z) in
    let same = int_passed s c.args.text.now c.split_at.result.1.now c.in-Some.number c.in-Some.len
    c.take_constant.new.self c.requires.text c.requires.word c.in-Some.ensures c.split_at.ensures.back takes in
    grind arith
