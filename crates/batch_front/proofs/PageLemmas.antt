-- A report on its way to a writer.
use Rattle.std.proofs.Common.{◌≡◌, ℕ, zero, suc, ◌+◌, ◌≤◌, List, [], ◌∷◌, ◌++◌, length, take, get_or, Option, Ok, Err}
use Rattle.std.proofs.Common.{◌↔◌, Bool, inl, inr, true, false, refl, sym, ◌∙◌, arith, append_assoc, append-nil}
use Rattle.std.specs.Prelude.{OnOk, OnErr, IsErrOf}
use Rattle.std.specs.declared.result.Result.{Result}
use Rattle.std.specs.Io.KnownBytes.{Appends, Keeps}
use Rattle.std.specs.List.{flat_map}
use Rattle.std.proofs.lemmas.Grind.{flat_map-append}
use Rattle.std.proofs.lemmas.List.{take_more, take_all}
use Rattle.batch_front.specs.declared.device.Device.{Device}
use Rattle.batch_front.specs.declared.device.TheConstants.{MOST_INTERRUPTIONS}
use Rattle.batch_front.specs.declared.fault.FrontFault.{FrontFault}
use Rattle.batch_front.specs.declared.fault.FrontFault.TheVariants.{Write}
use Rattle.batch_front.specs.declared.page.Page.{Page}
use Rattle.batch_front.specs.Devices.{inner_of, interrupts_of, is_flushed, is_flushing, HasWorked, IsAtFault, IsFresh}
use Rattle.batch_front.proofs.Bytes.{take_whole}
use Rattle.batch_front.specs.Pages.{Ends, HasSent, IsSaid, IsWritten, Puts, Sends}

-- ---- bytes

-- what is appended in two steps
appends_two : (a b c : Option (List ℕ)) (xs ys zs : List ℕ) → Appends a b xs → Appends b c ys → zs ≡ xs ++ ys
    → Appends a c zs
appends_two a b c xs ys zs p q e = grind (arith, append_assoc)

-- a front of a list is a front of a longer one
front_kept : (n : ℕ) (xs ys : List ℕ) → (k : ℕ) × (take k (xs ++ ys) ≡ take n xs)
front_kept zero xs ys = (0, refl)
front_kept (suc n) [] ys = (0, refl)
front_kept (suc n) (x ∷ xs) ys = let r = front_kept n xs ys in (suc r.0, grind (arith, r.1))

-- a front that begins with a whole list
front_more : (n : ℕ) (xs ys : List ℕ) → take (length xs + n) (xs ++ ys) ≡ xs ++ take n ys
front_more n [] ys = grind arith
front_more n (x ∷ xs) ys =
    let count : length (x ∷ xs) + n ≡ suc (length xs + n) = omega arith in rw (count, front_more n xs ys) refl

-- ---- what is said

-- more is said, and kept back
said_more : {D : Type 0} (contents : D → Option (List ℕ)) (spent : ℕ) (start : Option (List ℕ))
    (said kept text : List ℕ)
    (writer : Device D) → IsSaid contents spent start said kept writer
    → IsSaid contents spent start (said ++ text) (kept ++ text) writer
said_more contents spent start said kept text writer (inl (worked, h)) = grind (arith, append_assoc)
said_more contents spent start said kept text writer (inr (fault, h)) =
    let front = front_kept h.front.0 said text in
    inr (fault, record { at_write = h.at_write; front = (front.0, grind arith) })

-- if a test says that a device isn't without a fault
pub not_working : {P : Type 0} (works : Bool) → ((works ≡ true) ↔ P) → works ≡ false → P → ⊥
not_working works iff off p = grind arith

pub working : {P : Type 0} (works : Bool) → ((works ≡ true) ↔ P) → works ≡ true → P
working works iff on = iff.0 on

-- ---- what is sent

-- what a call that writes bytes has done
pub sends_bytes : {D : Type 0} (contents : D → Option (List ℕ)) (spent : ℕ) (kept : List ℕ) (old new : Device D)
    (result : Result (Unit {0}) FrontFault) → HasWorked old (interrupts_of old + spent)
    → OnOk result (Appends (contents (inner_of old)) (contents (inner_of new)) kept)
    → ((n : ℕ) × Appends (contents (inner_of old)) (contents (inner_of new)) (take n kept))
    → OnOk result (HasWorked new (interrupts_of new + spent)) → OnErr result (IsAtFault new (interrupts_of new + spent))
    → OnErr result (is_flushing new ≡ false) → Sends contents spent kept old new
sends_bytes contents spent kept old new (Ok done) well all front worked fault at_write start said (inl (w, h)) =
    inl (
      worked,
      record {
        sent =
            said;
        appended = appends_two start _ _ h.sent kept said h.appended all h.all;
        all = sym (append-nil said);
      },
    )
sends_bytes contents spent kept old new (Err e) well all front worked fault at_write start said (inl (w, h)) =
    inr (
      fault,
      record {
        at_write = at_write;
        front = (
          length h.sent + front.0,
          appends_two start _ _ h.sent (take front.0 kept) _ h.appended front.1
              (rw h.all (front_more front.0 h.sent kept)),
        );
      },
    )
sends_bytes contents spent kept old new r well all front worked fault at_write start said (inr (f, h)) = grind arith

-- ---- what is put

-- one text after another
pub puts_then : {D : Type 0} {contents : D → Option (List ℕ)} {p q r : Page} {a b c : Device D} {text more : List ℕ}
    → Puts contents p a q b text → Puts contents q b r c more → Puts contents p a r c (text ++ more)
puts_then {text = text} {more = more} first second =
    record {
      spent = second.spent ∙ first.spent;
      said = λ start said h. grind (arith, append_assoc, first.said start said h, second.said start (said ++ text));
    }

-- the same text in other words
pub puts_same : {D : Type 0} {contents : D → Option (List ℕ)} {p q : Page} {a b : Device D} {text same : List ℕ}
    → Puts contents p a q b text → text ≡ same → Puts contents p a q b same
puts_same {contents = contents} {p = p} {q = q} {a = a} {b = b} puts e = grind arith

-- bytes that are kept back
pub puts_kept : {D : Type 0} (contents : D → Option (List ℕ)) (page new : Page) (writer : Device D) (text : List ℕ)
    → new.bytes.items ≡ page.bytes.items ++ text → new.spent ≡ page.spent → Puts contents page writer new writer text
puts_kept contents page new writer text kept same = record {
  spent = same;
  said = λ start said h. rw kept (said_more contents page.spent start said page.bytes.items text writer h);
}

-- nothing is kept back beside what was
pub puts_unchanged : {D : Type 0} (contents : D → Option (List ℕ)) (page new : Page) (writer : Device D)
    → new.bytes.items ≡ page.bytes.items → new.spent ≡ page.spent → Puts contents page writer new writer []
puts_unchanged contents page new writer kept same = grind (arith, puts_kept, append-nil)

-- what was kept back is sent
pub puts_sent : {D : Type 0} (contents : D → Option (List ℕ)) (page new : Page) (old writer : Device D)
    → Sends contents page.spent page.bytes.items old writer → new.bytes.items ≡ [] → new.spent ≡ page.spent
    → Puts contents page old new writer []
puts_sent contents page new old writer sends none same = grind (arith, append-nil)

-- if nothing is kept back, a text is sent at once
pub puts_at_once : {D : Type 0} (contents : D → Option (List ℕ)) (page new : Page) (old writer : Device D)
    (text : List ℕ)
    → Sends contents page.spent text old writer → page.bytes.items ≡ [] → new.bytes.items ≡ page.bytes.items
    → new.spent ≡ page.spent → Puts contents page old new writer text
puts_at_once contents page new old writer text sends none kept same = record {
  spent = same;
  said = λ start said h.
      let more = said_more contents page.spent start said page.bytes.items text old h in
      grind (arith, sends start (said ++ text));
}

-- one piece more
pub puts_more : {X D : Type 0} {contents : D → Option (List ℕ)} {p q r : Page} {a b c : Device D} (piece : X → List ℕ)
    (xs : List X) (i : ℕ) (x : X) → i + 1 ≤ length xs → x ≡ get_or xs i x
    → Puts contents p a q b (flat_map piece (take i xs)) → Puts contents q b r c (piece x)
    → Puts contents p a r c (flat_map piece (take (i + 1) xs))
puts_more {X = X} piece xs i x within is before after =
    puts_same (puts_then before after) (grind (arith, append-nil, flat_map-append, take_more xs i x))

-- ---- the end

-- a writer at fault
pub ends_at_fault : {D : Type 0} (contents : D → Option (List ℕ)) (page new : Page) (old writer : Device D)
    → Puts contents page old new writer [] → (HasWorked writer (interrupts_of writer + new.spent) → ⊥)
    → Ends contents page old writer (Err Write)
ends_at_fault contents page new old writer puts none start said h =
    grind (arith, puts.said start said h, append-nil said)

-- a writer that is flushed
pub ends_flushed : {D : Type 0} (contents : D → Option (List ℕ)) (page new : Page) (old sent writer : Device D)
    (result : Result (Unit {0}) FrontFault) → Puts contents page old new sent [] → new.bytes.items ≡ []
    → HasWorked sent (interrupts_of sent + new.spent) → Keeps (contents (inner_of sent)) (contents (inner_of writer))
    → OnOk result (is_flushed writer ≡ true) → OnOk result (HasWorked writer (interrupts_of writer + new.spent))
    → OnErr result (IsAtFault writer (interrupts_of writer + new.spent)) → OnErr result (IsErrOf result Write)
    → Ends contents page old writer result
ends_flushed contents page new old sent writer result puts none well kept flushed worked fault alone start said h =
    grind (arith, puts.said start said h, puts.spent, append-nil, take_all (length said) said)

-- ---- a report

-- a text that is put on an empty page, after which the page is finished, is written
pub writes : {D : Type 0} (contents : D → Option (List ℕ)) (spent : ℕ) (page new : Page) (old put writer : Device D)
    (text : List ℕ) (result : Result (Unit {0}) FrontFault) → page.bytes.items ≡ [] → page.spent ≡ spent → IsFresh old
    → spent ≤ MOST_INTERRUPTIONS → Puts contents page old new put text → Ends contents new put writer result
    → IsWritten contents spent (contents (inner_of old)) text writer result
writes contents spent page new old put writer text result none same fresh few puts ends =
    let start = contents (inner_of old) in
    grind (arith, ends start text, puts.said start [], puts.spent, append-nil)

-- what is written with a value in place of nothing
pub written_with : {D T : Type 0} (contents : D → Option (List ℕ)) (spent : ℕ) (start : Option (List ℕ))
    (said : List ℕ) (writer : Device D) (done : Result (Unit {0}) FrontFault) (value : T) (unit : Unit {0})
    → done ≡ Ok unit → IsWritten contents spent start said writer done
    → IsWritten contents spent start said writer (Ok value)
written_with contents spent start said writer done value unit e h = grind arith

-- a fault of the writer in place of another type's
pub written_not : {D T : Type 0} (contents : D → Option (List ℕ)) (spent : ℕ) (start : Option (List ℕ)) (said : List ℕ)
    (writer : Device D) (done : Result (Unit {0}) FrontFault) (fault : FrontFault) → done ≡ Err fault
    → IsWritten contents spent start said writer done → IsWritten {T = T} contents spent start said writer (Err fault)
written_not contents spent start said writer done fault e h = grind arith

-- what is put by one call
pub ruleset puts_by = (puts_kept, puts_unchanged, puts_sent, puts_at_once, puts_then)

-- what a call that writes or flushes makes of a page
pub ruleset page_ends = (ends_at_fault, ends_flushed, working, not_working, sends_bytes)
