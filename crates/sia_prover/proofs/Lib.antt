mod Right
mod Ways
