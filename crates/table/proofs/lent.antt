pub mod AtArcs
