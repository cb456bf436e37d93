-- The model of a chain: one word after another, what a held state must be for it, and No-ops in one stroke.
pub mod Step
pub mod Stroke
