-- The loop writes the nodes between two leaves, one height after another.
use Rattle.std.proofs.Common.{◌≡◌, ◌+◌, ◌*◌, ◌/◌, ◌<◌, arith, refl, ap, ◌∙◌, suc}
use Rattle.std.specs.Prelude.{replicate}
use Rattle.holes.specs.Tree.{above, width, summary}
use Rattle.holes.proofs.Writing.{side_at, side_half, doubled, none_under, level_written, two_widths, written_between}
use Rattle.holes.proofs.tree.write_between.Goals as goal

pub loop-first-init : goal.loop-first-init
unfolding above width side_at
loop-first-init c = record {
  same_length = refl;
  height = 0;
  first_is = refl;
  last_is = refl;
  order = omega (arith, c.requires.order);
  shrunk = omega arith;
  node_is = c.alike-node.ensures;
  side_is = refl;
  written = λ top left right. none_under c.args.nodes.now top c.args.first c.args.last c.args.value;
}

pub write_level-requires-clause-side : goal.write_level-requires-clause-side
write_level-requires-clause-side c =
    omega (arith, c.loop-first.invariant.side_is, side_half c.loop-first.invariant.height)

pub loop-first-preserved : goal.loop-first-preserved
unfolding above width
loop-first-preserved c =
    let i = c.loop-first.invariant in
    let h = i.height in
    let leaves = c.requires.leaves in
    let long : above h c.args.first + 1 < above h c.args.last = omega (arith, i.first_is, i.last_is) in
    let wide = two_widths h leaves.first_is leaves.last_is long in
    let level = rw (i.first_is, i.last_is, i.side_is) at c.write_level.ensures in
    record {
      same_length = c.write_level.ensures.same_length ∙ i.same_length;
      height = suc h;
      first_is = ap (λ n. n / 2) i.first_is;
      last_is = ap (λ n. n / 2) i.last_is;
      order = omega arith;
      shrunk = omega (arith, i.shrunk);
      node_is = c.join-node.ensures
          ∙ (doubled (256 * width h) c.args.value c.loop-first.node (omega (arith, wide, leaves.small)) i.node_is
          ∙ ap (λ n. summary (replicate n c.args.value))
          (let e : 256 * width h + 256 * width h ≡ 256 * (width h + width h) = omega arith in e));
      side_is = omega (arith, i.side_is, side_half h);
      written = λ top left right. level_written left right long i.node_is (i.written top left right)
          level;
    }

pub returns : goal.returns
returns c top left right =
    let i = c.loop-first.invariant in
    written_between (omega (arith, i.first_is, i.last_is)) (i.written top left right)
