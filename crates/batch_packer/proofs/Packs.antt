-- A file joined to a batch.
use Rattle.std.proofs.Common.{◌≡◌, ℕ, ◌+◌, true, List, [], ◌∷◌, ◌++◌, arith, append_assoc, length-append}
use Rattle.std.proofs.lemmas.List.{append-nil}
use Rattle.std.proofs.lemmas.List.Elements.{All-push}
use Rattle.vcode_base.specs.Lines.{line_feeds}
use Rattle.vcode_base.specs.declared.rule.Rule.{Rule}
use Rattle.batch_packer.specs.Joins.{IsOneJob, OneJob, text_of, texts_of}
use Rattle.batch_packer.specs.Packs.{FileState, IsPack, PackState, has_room}

pub feeds_append : (xs ys : List ℕ) → line_feeds (xs ++ ys) ≡ line_feeds xs + line_feeds ys
feeds_append [] ys = omega arith
feeds_append (x ∷ xs) ys = omega (arith, feeds_append xs ys)

pub room_rule : (p : PackState) (f : FileState) → has_room p f ≡ true → f.rule ≡ p.rule
room_rule p f h = grind arith

texts_append : (rule : Rule) (files : List OneJob) (one : OneJob)
    → texts_of rule (files ++ one ∷ []) ≡ texts_of rule files ++ text_of rule one.bytes
texts_append rule [] one = append-nil (text_of rule one.bytes)
texts_append rule (file ∷ files) one = grind (arith, append_assoc, texts_append rule files one)

-- one file more
pub pack_joined : (p q : PackState) (f : FileState) (files : List OneJob) (one : OneJob) → f.rule ≡ p.rule
    → q.rule ≡ p.rule → q.jobs ≡ p.jobs + 1 → q.bytes ≡ p.bytes ++ f.text → IsPack p files → IsOneJob f.rule one
    → f.text ≡ text_of f.rule one.bytes → IsPack q (files ++ one ∷ [])
pack_joined p q f files one same rule jobs bytes is job text = record {
  bytes = grind (arith, texts_append p.rule files one, append_assoc);
  jobs = grind (arith, length-append);
  one_each = rw rule (All-push (IsOneJob p.rule) files one is.one_each (rw same at job));
}
