use Rattle.std.proofs.Common.{◌≡◌, false, take, length, map}
use Rattle.vcode_base.specs.Segments.{element}
use Rattle.segment_ops.specs.Indices.{some_outside}
use Rattle.segment_ops.proofs.gathers.gather.Given as goal

abbrev pub invariant-loop-place : goal.invariant-loop-place
invariant-loop-place l = record {
  inside : some_outside (length l.elements) (take l.place l.indices) ≡ false;
  written : take l.place l.out ≡ map (element l.elements) (take l.place l.indices);
}
