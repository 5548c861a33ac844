-- The parts that identify a state of a reading.
use Rattle.std.specs.Prelude.{ℕ, Bool, List, Option, refl}
use Rattle.std.specs.Coded.{Coded, code_by, coded_ℕ, coded_bool, coded×, coded_list}
use Rattle.vcode_reader.specs.declared.keyword.WordSlot.{WordSlot}
use Rattle.vcode_reader.specs.declared.place.OpenIf.{OpenIf}
use Rattle.vcode_reader.specs.declared.place.Place.{Place}
use Rattle.vcode_reader.specs.Decode.{function_code}
use Rattle.vcode_reader.specs.Drafts.{DraftState, draft_code}
use Rattle.vcode_reader.specs.Keywords.{ItemParts}
use Rattle.vcode_reader.specs.Parsing.{Parse}
use Rattle.vcode_reader.specs.Reading.{ReaderState}
use Rattle.vcode_reader.specs.Refusals.{Fault}
use Rattle.vcode_reader.specs.Scan.{Scan}
use Rattle.vcode_reader.specs.Trees.{CodeLine, Function}

abbrev pub parse_code : Coded CodeLine → Coded OpenIf → Coded Place → Coded WordSlot → Coded ItemParts →
    Coded (Option Fault) → Coded Parse
parse_code line ifs place slot parts fault =
    code_by (List Function × (Place × (List ℕ × (ℕ × (DraftState × (List WordSlot × (ItemParts × Option Fault)))))))
    (coded× (coded_list (function_code line))
    (coded× place
    (coded× (coded_list coded_ℕ)
    (coded× coded_ℕ (coded× (draft_code line ifs) (coded× (coded_list slot) (coded× parts fault)))))))
    (λ p. (p.functions, (p.place, (p.name, (p.line, (p.draft, (p.slots, (p.parts, p.fault))))))))
    (λ t. record {
      functions = t.0;
      place = t.1.0;
      name = t.1.1.0;
      line = t.1.1.1.0;
      draft = t.1.1.1.1.0;
      slots = t.1.1.1.1.1.0;
      parts = t.1.1.1.1.1.1.0;
      fault = t.1.1.1.1.1.1.1;
    })
    (λ _. refl)

abbrev pub scan_code : {P : Type 0} → Coded P → Coded (Option ℕ) → Coded (Scan P)
scan_code {P} found comment =
    code_by (P × (ℕ × (List ℕ × Option ℕ))) (coded× found (coded× coded_ℕ (coded× (coded_list coded_ℕ) comment)))
    (λ s. (s.found, (s.line, (s.word, s.comment))))
    (λ t. record { found = t.0; line = t.1.0; word = t.1.1.0; comment = t.1.1.1 }) (λ _. refl)

abbrev pub fed_code : Coded (Scan Parse) → Coded ReaderState
fed_code scan =
    code_by (Scan Parse × (ℕ × (ℕ × Bool))) (coded× scan (coded× coded_ℕ (coded× coded_ℕ coded_bool)))
    (λ r. (r.scan, (r.first_line, (r.size, r.failed))))
    (λ t. record { scan = t.0; first_line = t.1.0; size = t.1.1.0; failed = t.1.1.1 }) (λ _. refl)
