-- A state of a job that runs alone: its stack, the calls that are active, and what it used so far.
use Rattle.std.specs.Prelude.{ℕ, ℤ, ◌+◌, ◌==◌, Bool, if◌then◌else◌, List, [], ◌∷◌, length, map, reverse, Option, Some}
use Rattle.std.specs.Prelude.{None, position, slice_get}
use Rattle.std.specs.List.{list_any}
use Rattle.std.specs.Str.{bytes_eq}
use Rattle.vcode_base.specs.declared.kind.Kind.{Kind}
use Rattle.vcode_base.specs.declared.value.Value.{Value}
use Rattle.vcode_base.specs.declared.limits.Limits.{Limits}
use Rattle.vcode_base.specs.declared.rule.Rule.{Rule}
use Rattle.vcode_base.specs.Names.{main_name}
use Rattle.vcode_reader.specs.Trees.{Body, Function}
use Rattle.signatures.specs.Signatures.{FunctionType}
use Rattle.verifier.specs.Typed.{TypedProgram}

-- a vector: its kind and its words
abbrev pub Vector : Type 0
Vector = Value (List ℤ)

-- what a job is: a verified program, with its name and its limits
pub record JobValue : Type 0 where
  pub name : List ℕ
  pub verified : TypedProgram
  pub limits : Limits

-- what is run: a job, and the rule by which its operands count
pub record Task : Type 0 where
  pub name : List ℕ
  pub verified : TypedProgram
  pub limits : Limits
  pub rule : Rule

-- a job under a rule
abbrev pub ruled : Rule → JobValue → Task
ruled rule job = record { name = job.name; verified = job.verified; limits = job.limits; rule = rule }

-- an entry of the stack: copies of it have its tag, and no other entry has
pub record StackEntry : Type 0 where
  pub tag : ℕ
  pub value : Vector

-- an active call: what remains of its body, and the line of its RET
pub record Active : Type 0 where
  pub rest : Body
  pub ret : ℕ

-- the top of the stack and the innermost call come first
pub record State : Type 0 where
  pub stack : List StackEntry
  pub calls : List Active
  pub executed : ℕ
  pub next : ℕ
  pub peak : ℕ

-- ---- functions by their names

-- a function that is called, with the kinds that it takes and gives
pub record Callee : Type 0 where
  pub function : Function
  pub arrow : FunctionType

abbrev pub callee_of : Option Function → Option FunctionType → Option Callee
callee_of (Some function) (Some arrow) = Some (record { function = function; arrow = arrow })
callee_of (Some function) None = None
callee_of None arrow = None

abbrev pub callee_at : TypedProgram → Option ℕ → Option Callee
callee_at verified None = None
callee_at verified (Some place) =
    callee_of (slice_get verified.program.functions place) (slice_get verified.arrows place)

-- the first function of a name
abbrev pub callee_named : TypedProgram → List ℕ → Option Callee
callee_named verified name = callee_at verified (position (λ f. bytes_eq f.name name) verified.program.functions)

-- the calls with one of this function added
abbrev pub calls_with : Option Callee → List Active → List Active
calls_with None calls = calls
calls_with (Some callee) calls = record { rest = callee.function.body; ret = callee.function.ret } ∷ calls

-- the state before the first instruction
abbrev pub first_state : TypedProgram → State
first_state verified = record {
  stack = [];
  calls = calls_with (callee_named verified main_name) [];
  executed = 0;
  next = 0;
  peak = 0;
}

-- ---- entries

abbrev pub words_of : List StackEntry → List (List ℤ)
words_of entries = map (λ e. e.value.words) entries

abbrev pub values_of : List StackEntry → List Vector
values_of entries = map (λ e. e.value) entries

-- the kinds of a stack, from the bottom up
abbrev pub stack_kinds : List StackEntry → List Kind
stack_kinds stack = reverse (map (λ e. e.value.kind) stack)

abbrev pub has_tag : ℕ → List StackEntry → Bool
has_tag tag entries = list_any (λ e. e.tag == tag) entries

-- the total length of the distinct vectors on a stack
abbrev pub held_words : List StackEntry → ℕ
held_words [] = 0
held_words (e ∷ es) = (if has_tag e.tag es then 0 else length e.value.words) + held_words es

-- vectors as entries with the next tags
abbrev pub new_entries : ℕ → List Vector → List StackEntry
new_entries next [] = []
new_entries next (v ∷ vs) = record { tag = next; value = v } ∷ new_entries (next + 1) vs
