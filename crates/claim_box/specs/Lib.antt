-- What is claimed of the box: the starred figures as one table, both sides of each limit, what a command reads, demand 3, what a chain may change (demand 2),
-- and how tightly all is pinned: the boxes that are shut out, the exported routines, what the writes need.
pub mod Figures
pub mod Lost
pub mod Limits
pub mod Reading
pub mod Demand3
pub mod Example
pub mod Confined
pub mod Boxes
pub mod Exports
pub mod Writes
