-- What is put at a number that was vacant lies there.
use Rattle.std.proofs.Common.{◌≡◌, length, arith}
use Rattle.block_memory.proofs.TableLemmas.{next, all-push, push-left}
use Rattle.block_memory.proofs.table.Table.insert_with.Goals as goal

pub returns-in_default-clause-inserted : goal.returns-in_default-clause-inserted
returns-in_default-clause-inserted g c =
    let was : length c.self.inside.vacant.items ≡ 0 =
    omega (arith, c.in_default.ensures.cases.0, c.self.inside.vacant.ok.0) in
    let less = push-left c.self.inside.entries _ _ _ _ _ _ c.self.invariant c.self.view_is was c.requires.room in
    let p = c.push_place.ensures in
    let same : c.push_place.result ≡ c.len-number.result =
    omega (arith, p.number, c.len-number.ensures, c.self.inside.keys.ok.0) in (
      c.value.result,
      rw same c.value.ensures,
      rw p.number (all-push c.self.inside.entries c.push_place.new.entries _ _ _ _ c.value.result less
          c.self.view_is p.places p.keys),
    )

pub index_mut-requires : goal.index_mut-requires
index_mut-requires g c = (next _ _ c.self.invariant c.self.view_is c.in-Some.ensures.items c.index.ensures).present

pub returns-clause-in_range : goal.returns-clause-in_range
returns-clause-in_range g c =
    (next _ _ c.self.invariant c.self.view_is c.in-Some.ensures.items c.index.ensures).in_range

pub returns-clause-vacant : goal.returns-clause-vacant
returns-clause-vacant g c =
    (next _ _ c.self.invariant c.self.view_is c.in-Some.ensures.items c.index.ensures).vacant

pub invariant_of-self-2 : goal.invariant_of-self-2
invariant_of-self-2 g c =
    rw c.pop.ensures.capacity ((next _ _ c.self.invariant c.self.view_is c.in-Some.ensures.items
    c.index.ensures).table c.value-2.result)

pub returns-clause-inserted : goal.returns-clause-inserted
returns-clause-inserted g c = (
  c.value-2.result,
  c.value-2.ensures,
  (next _ _ c.self.invariant c.self.view_is c.in-Some.ensures.items c.index.ensures).inserted c.value-2.result,
)
