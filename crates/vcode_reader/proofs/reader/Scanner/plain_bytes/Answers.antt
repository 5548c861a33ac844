-- The plain bytes at the front of a text: what is read fits, and it is what the whole word gives.
use Rattle.std.proofs.Common.{rules, ◌≡◌, ℕ, List, arith}
use Rattle.std.proofs.lemmas.Grind.{common_steps}
use Rattle.vcode_reader.specs.Parsing.{Parse, take}
use Rattle.vcode_reader.specs.Scan.{Scan, scan_all}
use Rattle.vcode_reader.proofs.Earlier.{front_read, rest_fits}
use Rattle.vcode_reader.proofs.Pieces.{no_bytes, plain_run, plain_within, some_bytes, whole_word}
use Rattle.vcode_reader.proofs.reader.Scanner.plain_bytes.Goals as goal

-- the plain bytes are a whole word
abbrev IsWhole : Scan Parse → List ℕ → List ℕ → List ℕ → Type 0
IsWhole s text plain rest =
    scan_all take s text ≡ scan_all take (record s { found = take plain s.line s.found }) rest

pub split_at-requires : goal.split_at-requires
split_at-requires g c = grind (arith, plain_within)

pub instruction-requires-clause-fits : goal.instruction-requires-clause-fits
instruction-requires-clause-fits g c =
    let all : IsWhole c.args.self.now c.args.text.now c.split_at.result.0.now c.split_at.result.1.now =
    search (rules, whole_word, no_bytes, some_bytes) in
    let fits = rest_fits _ _ _ _ all c.requires.fits in
    grind (arith, (rw c.in-Some-Start.field-0-is at c.in-Some-Start.ensures.takes) c.self.inside.line)

pub inside-requires : goal.inside-requires
inside-requires g c =
    let all : IsWhole c.args.self.now c.args.text.now c.split_at.result.0.now c.split_at.result.1.now =
    search (rules, whole_word, no_bytes, some_bytes) in
    let read = front_read c.args.self.now _ _ _ all c.requires.fits in
    record { fits = grind (arith, c.in-Some.ensures.takes c.self.inside.line) }

pub take-requires : goal.take-requires
take-requires g c =
    let all : IsWhole c.args.self.now c.args.text.now c.split_at.result.0.now c.split_at.result.1.now =
    search (rules, whole_word, no_bytes, some_bytes) in
    record { fits = rw (← c.self.view_is) at (front_read c.args.self.now _ _ _ all c.requires.fits) }

pub returns-then-is_empty-clause-same : goal.returns-then-is_empty-clause-same
returns-then-is_empty-clause-same g c = grind (arith, common_steps, plain_run)

pub returns-in-Some-Start-clause-same : goal.returns-in-Some-Start-clause-same
returns-in-Some-Start-clause-same g c = search (rules, whole_word, no_bytes, some_bytes)

pub returns-in_ok-inside-in-Some : goal.returns-in_ok-inside-in-Some
returns-in_ok-inside-in-Some g c = search (rules, whole_word, no_bytes, some_bytes, plain_within)

pub returns-in_ok-take-in-None-clause-same : goal.returns-in_ok-take-in-None-clause-same
returns-in_ok-take-in-None-clause-same g c = search (rules, whole_word, no_bytes, some_bytes)
