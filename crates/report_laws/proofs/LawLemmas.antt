-- The laws of reports that are cut.
use Rattle.std.proofs.Common.{◌≡◌, ◌≤◌, ◌+◌, ◌-◌, ℕ, List, [], ◌∷◌, sym, ap, ◌∙◌, arith, Option}
use Rattle.std.proofs.Common.{length}
use Rattle.std.specs.Prelude.{IfSome, option_map}
use Rattle.vcode_base.specs.declared.outcome.Outcome.{Outcome}
use Rattle.job_steps.specs.States.{Vector, Task}
use Rattle.batch_reader.specs.declared.entry.Fate.{Fate}
use Rattle.batch_front.specs.Reports.{refused_count, report_of, ruled_entries}
use Rattle.report_laws.specs.EntryParts.{entry_parts, fate_end, line_end, text_after_end, text_after_fate}
use Rattle.report_laws.specs.Laws.{IsFateFurtherOn, OwnReportsAreCut, ReportsAreCut}
use Rattle.report_laws.specs.MovedCode.{moved_outcome}
use Rattle.report_laws.proofs.EntryLemmas.{entries_are, entries_text_is}
use Rattle.report_splitter.specs.declared.ending.LineEnd.{LineEnd}
use Rattle.report_splitter.specs.declared.ending.Stop.TheVariants as stop
use Rattle.report_splitter.specs.ReportTexts.{EntryText, own_end, own_entry, refused_in, report_from}

pub reports_are_cut : ReportsAreCut
unfolding report_of
reports_are_cut rule entries all = record {
  report = entries_text_is 1 (length (ruled_entries rule entries)) (refused_count (ruled_entries rule entries))
      (ruled_entries rule entries);
  entry_texts = entries_are (ruled_entries rule entries) all;
}

-- ---- n lines further on

abbrev Late : Option LineEnd → Type 0
Late end = IfSome end (λ e. 1 ≤ e.line)

module _ (n : ℕ) where
  line_back : (line : ℕ) → 1 ≤ line → line + n - (n + 1) + 1 ≡ line
  line_back line late = omega arith

  own_line_end : (o : Outcome (List Vector)) → Late (line_end o)
      → option_map (own_end (n + 1)) (line_end (moved_outcome n o)) ≡ line_end o
  own_line_end o h1 = grind (arith, line_back)

  same_text_after : (o : Outcome (List Vector)) → text_after_end (moved_outcome n o) ≡ text_after_end o
  same_text_after o = grind arith

  none_refused : (o : Outcome (List Vector)) → refused_in (line_end o) ≡ 0
  none_refused o = grind arith

  own_fate_end : (own other : Fate Task) → IsFateFurtherOn n own other → Late (fate_end own)
      → option_map (own_end (n + 1)) (fate_end other) ≡ fate_end own
  own_fate_end own other h1 h2 = grind (arith, own_line_end, line_back)

  own_fate_text : (own other : Fate Task) → IsFateFurtherOn n own other → text_after_fate other ≡ text_after_fate own
  own_fate_text own other h1 = grind (arith, same_text_after)

  own_refused : (name : List ℕ) (own other : Fate Task) → IsFateFurtherOn n own other
      → refused_in (fate_end other) ≡ refused_count (record { name = name; fate = own } ∷ [])
  own_refused name own other h1 = grind (arith, none_refused)

abbrev parts_with : List ℕ → Option LineEnd → List ℕ → EntryText
parts_with name end text = record { name = name; end = end; text = text }

pub own_reports_are_cut : OwnReportsAreCut
own_reports_are_cut n own other names further late =
    let end = own_fate_end n own.fate other.fate further late in
    let text = own_fate_text n own.fate other.fate further in
    let refused = own_refused n own.name own.fate other.fate further in
    let same : own_entry (n + 1) (entry_parts other) ≡ entry_parts own =
    ap (λ (name : List ℕ). parts_with name (option_map (own_end (n + 1)) (fate_end other.fate))
    (text_after_fate other.fate)) names
    ∙ ap (λ (e : Option LineEnd). parts_with own.name e (text_after_fate other.fate)) end
    ∙ ap (λ (t : List ℕ). parts_with own.name (fate_end own.fate) t) text in
    ap (λ (entry : EntryText). report_from 1 1 (refused_in (fate_end other.fate)) (entry ∷ [])) same
    ∙ ap (λ (r : ℕ). report_from 1 1 r (entry_parts own ∷ [])) refused
    ∙ sym (entries_text_is 1 1 (refused_count (own ∷ [])) (own ∷ []))
