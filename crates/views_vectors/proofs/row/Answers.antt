use Rattle.std.proofs.Common.{◌≡◌, ◌∙◌, arith, length}
use Rattle.views.proofs.PlacedLaws.{places_of, heads_same, heads_low, stands_placed}
use Rattle.views.proofs.RowLaws.{row_finite, row_reads, row_stands}
use Rattle.views_vectors.proofs.Choices.{all_candidates}
use Rattle.views_vectors.proofs.row.Goals as goal

pub with_columns-found-requires-clause-by_index : goal.with_columns-found-requires-clause-by_index
with_columns-found-requires-clause-by_index g c =
    heads_low _ _ _ _ _ c.heads-starts.result c.requires.0.columns c.requires.1 c.heads-starts.ensures

-- the row of these choices stands in the bytes, by its places too
pub attribute-k-requires : goal.attribute-k-requires
attribute-k-requires g c =
    let w = c.requires.0 in
    let told = c.are_candidates.ensures c.if-are_candidates.true in
    let choices = c.args.choices.now in
    let six : length c.heads-starts.result ≡ 6 = omega (arith, c.heads-starts.type_inv) in
    let stands =
    row_stands _ _ _ _ w.last w.few w.columns choices (all_candidates _ _ _ choices c.places-grid.result w.few c.places-grid.ensures told)
    _ _ c.places-grid.result c.heads-starts.ensures c.places-grid.ensures c.chosen-values.ensures w.sections in
    let columns = c.with_columns-found.ensures in
    stands_placed (places_of _ _ _ _ _ _ columns c.index_of-base.ensures.sections c.index_of-base.ensures.indexed) _
    (rw (heads_same columns six) stands)

pub report-requires : goal.report-requires
report-requires g c =
    let w = c.requires.0 in
    let told = c.are_candidates.ensures c.if-are_candidates.true in
    let choices = c.args.choices.now in
    let six : length c.heads-starts.result ≡ 6 = omega (arith, c.heads-starts.type_inv) in
    let stands =
    row_stands _ _ _ _ w.last w.few w.columns choices (all_candidates _ _ _ choices c.places-grid.result w.few c.places-grid.ensures told)
    _ _ c.places-grid.result c.heads-starts.ensures c.places-grid.ensures c.chosen-values.ensures w.sections in
    let columns = c.with_columns-found.ensures in
    let placed =
    stands_placed (places_of _ _ _ _ _ _ columns c.index_of-base.ensures.sections c.index_of-base.ensures.indexed) _
    (rw (heads_same columns six) stands) in
    let is = c.value_at.ensures ∙ c.attribute-k.ensures.is in
    (rw is (row_finite _ _ _ _ _ placed.stands _ _), rw is (row_reads _ _ _ _ _ placed.stands _ _).whole)
