-- `lookups::string_place` meets its contract: each return is a case of the definition that the contract cites. Assumes nothing.
use Rattle.std.proofs.Common.{◌+◌, ◌≤◌, length, arith, sym, ◌∙◌}
use Rattle.bags.specs.Reading.{byte}
use Rattle.lookups.proofs.Answers.{string_inside, string_stretch, other_stretch, refused_stretch}
use Rattle.lookups.proofs.string_place.Goals as goal

pub overflow_add-result : goal.overflow_add-result
overflow_add-result c =
    let inside = string_inside c.args.bag.now c.args.root c.args.path.now c.in-Ok.v (sym c.lookup.ensures ∙ c.in-Ok.is) c.if-v-eq-STRING.true in
    omega (arith, inside)

pub bounds-bag-v : goal.bounds-bag-v
bounds-bag-v c =
    let inside = string_inside c.args.bag.now c.args.root c.args.path.now c.in-Ok.v (sym c.lookup.ensures ∙ c.in-Ok.is) c.if-v-eq-STRING.true in
    omega (arith, inside)

pub returns-in-Ok : goal.returns-in-Ok
returns-in-Ok c = record {
  is = string_stretch c.args.bag.now _ _ (sym c.lookup.ensures ∙ c.in-Ok.is) c.if-v-eq-STRING.true;
  inside = string_inside c.args.bag.now c.args.root c.args.path.now c.in-Ok.v (sym c.lookup.ensures ∙ c.in-Ok.is) c.if-v-eq-STRING.true;
}

pub returns-in_default-clause-is : goal.returns-in_default-clause-is
returns-in_default-clause-is c = other_stretch c.args.bag.now _ _ (sym c.lookup.ensures ∙ c.in-Ok.is) c.if-v-eq-STRING.false

pub returns-in_default-2-clause-is : goal.returns-in_default-2-clause-is
returns-in_default-2-clause-is c = refused_stretch c.args.bag.now _ _ (sym c.lookup.ensures ∙ c.in_default.is)
