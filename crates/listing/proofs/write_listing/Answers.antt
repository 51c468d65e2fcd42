-- `write_listing` meets its contract: the first line, then the lines of the nodes, have room and are written from the front on.
use Rattle.std.proofs.Common.{rules}
use Rattle.listing.proofs.text.Writing.{wrote_then}
use Rattle.listing.specs.Listing.{listing_of}
use Rattle.listing.proofs.Writing.{filled}
use Rattle.listing.proofs.Lines.{status_line_room, node_lines_fit, listing_room}
use Rattle.listing.proofs.write_listing.Goals as goal

pub put_status_line-requires : goal.put_status_line-requires
put_status_line-requires c = (search rules, search rules, status_line_room _ c.requires.few_spans c.new-text.ensures.begun.1 (search rules))

pub put_node_lines-requires : goal.put_node_lines-requires
put_node_lines-requires c =
    (search rules, search rules, node_lines_fit _ c.requires.few_spans c.new-text.ensures.begun.1 (search rules) c.put_status_line.ensures c.requires.few_nodes)

pub returns : goal.returns
unfolding listing_of
returns c =
    filled (wrote_then c.put_status_line.ensures c.put_node_lines.ensures) c.new-text.ensures.begun
    (listing_room _ c.requires.few_spans c.new-text.ensures.begun.1 (search rules) _ c.requires.few_nodes) (search rules) c.bytes.ensures
